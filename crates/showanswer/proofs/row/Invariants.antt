-- `showanswer::row` meets its contract. The loop: the cells that are passed are written, and the others are left.
-- Assumes nothing.
use Rattle.std.proofs.Common.{◌≡◌, length}
use Rattle.std.specs.Io.KnownBytes.{Appends}
use Rattle.showanswer.specs.Shown.{cell_texts}
use Rattle.showanswer.proofs.Laws.{Left}
use Rattle.showanswer.proofs.row.Given as goal

abbrev pub invariant-loop-j : goal.invariant-loop-j
invariant-loop-j g l = record {
  left : Left l.j-iterator.iter l.cells 8 (length l.yielded);
  count : l.j-iterator.count ≡ length l.yielded;
  written : Appends (g.W.Write.contents l.initial.to) (g.W.Write.contents l.to) (cell_texts l.cells (length l.yielded));
}
