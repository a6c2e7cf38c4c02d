-- `catalogue::has_column` meets its contract: what is left of the records decides.
-- Assumes nothing.
use Prim.Native.Nat.{◌-◌}
use mathlib.Core.Path.{◌≡◌}
use Rattle.catalogue.specs.Fault.{has_column}
use Rattle.catalogue.proofs.has_column.Given as goal

abbrev pub invariant-loop-j : goal.invariant-loop-j
invariant-loop-j l = has_column l.cat (l.n - l.i) l.i ≡ has_column l.cat (l.n - l.j) l.j
