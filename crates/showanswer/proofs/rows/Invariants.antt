-- `showanswer::rows` meets its contract. The loop: the rows that are passed are written, and the others are left.
-- Assumes nothing.
use Rattle.std.proofs.Common.{◌≡◌, ◌+◌, ◌*◌, max, length, drop}
use Rattle.std.specs.Io.KnownBytes.{Appends}
use Rattle.showanswer.specs.Shown.{row_lines}
use Rattle.showanswer.proofs.Laws.{Left}
use Rattle.showanswer.proofs.rows.Given as goal

abbrev pub invariant-loop-cells : goal.invariant-loop-cells
invariant-loop-cells g l = record {
  left : Left l.cells-iterator.iter (drop 8 l.out) (8 * max l.columns 1) (length l.yielded);
  count : l.cells-iterator.n + length l.yielded ≡ l.count;
  written : Appends (g.W.Write.contents l.initial.to) (g.W.Write.contents l.to) (row_lines (8 * max l.columns 1) (drop 8 l.out) (length l.yielded));
}
