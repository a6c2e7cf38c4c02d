-- `catalogue::column_used` meets its contract: what is left of the records before record i decides.
-- Assumes nothing.
use Prim.Native.Nat.{◌≤◌}
use mathlib.Core.Path.{◌≡◌}
use Rattle.catalogue.specs.Fault.{column_used}
use Rattle.catalogue.proofs.column_used.Given as goal

abbrev pub invariant-loop-j : goal.invariant-loop-j
invariant-loop-j l = (l.j ≤ l.i) × (column_used l.cat l.name l.i ≡ column_used l.cat l.name l.j)
