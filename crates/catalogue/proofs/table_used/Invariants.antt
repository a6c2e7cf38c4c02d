-- `catalogue::table_used` meets its contract: what is left of the records before record i decides.
-- Assumes nothing.
use Prim.Native.Nat.{◌≤◌}
use mathlib.Core.Path.{◌≡◌}
use Rattle.catalogue.specs.Fault.{table_used}
use Rattle.catalogue.proofs.table_used.Given as goal

abbrev pub invariant-loop-j : goal.invariant-loop-j
invariant-loop-j l = (l.j ≤ l.i) × (table_used l.cat l.name l.i ≡ table_used l.cat l.name l.j)
