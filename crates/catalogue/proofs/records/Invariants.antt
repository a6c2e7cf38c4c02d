-- `catalogue::records` meets its contract: what is seen is what the records before record i say, and the lowest fault is that of what is left.
-- Assumes nothing.
use Prim.Native.Nat.{◌-◌}
use mathlib.Core.Path.{◌≡◌}
use Rattle.catalogue.specs.Fault.{lowest}
use Rattle.catalogue.specs.Rising.{Sees}
use Rattle.catalogue.proofs.records.Given as goal

abbrev pub invariant-loop-i : goal.invariant-loop-i
invariant-loop-i l = Sees l.cat l.i l.seen × (lowest l.cat l.n l.n 0 ≡ lowest l.cat l.n (l.n - l.i) l.i)
