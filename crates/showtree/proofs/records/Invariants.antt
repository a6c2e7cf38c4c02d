-- `showtree::records` meets its contract. The loop: the records that are passed are written.
-- Assumes nothing.
use Rattle.std.specs.Io.KnownBytes.{Appends}
use Rattle.showtree.specs.Shown.{record_lines}
use Rattle.showtree.proofs.records.Given as goal

abbrev pub invariant-loop-i : goal.invariant-loop-i
invariant-loop-i g l = Appends (g.W.Write.contents l.initial.to) (g.W.Write.contents l.to) (record_lines l.tree l.i)
