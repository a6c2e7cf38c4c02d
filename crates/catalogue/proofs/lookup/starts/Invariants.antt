-- `catalogue::starts` meets its contract. The loop fills the array: the tables among the records before record i stand in it.
-- Assumes nothing.
use Rattle.catalogue.proofs.Places.{Filled}
use Prim.Native.Nat.{◌-◌, ◌≤◌}
use mathlib.Core.Path.{◌≡◌}
use lib.ListN.{length}
use Rattle.catalogue.proofs.lookup.starts.Given as goal

abbrev pub invariant-loop-i : goal.invariant-loop-i
invariant-loop-i l = (l.tables ≤ l.i) × (length l.slots ≡ 32) × Filled l.cat l.n l.slots l.tables l.i

abbrev pub decreases-loop-i : goal.decreases-loop-i
decreases-loop-i l = l.n - l.i
