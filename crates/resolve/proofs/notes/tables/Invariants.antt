-- `resolve::notes::tables` meets its contract. The invariant: what is left of the numbers comes to all of them.
-- Assumes nothing.
use Prim.Native.Nat.{◌-◌}
use Rattle.resolve.proofs.Noting.{Numbered}
use Rattle.resolve.proofs.notes.tables.Given as goal

abbrev pub invariant-loop-j : goal.invariant-loop-j
invariant-loop-j l = Numbered l.source.cat.now l.source.files.nc l.source.view.now l.at l.count l.initial.notes l.notes l.j

abbrev pub decreases-loop-j : goal.decreases-loop-j
decreases-loop-j l = l.count - l.j
