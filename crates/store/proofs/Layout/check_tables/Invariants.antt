-- `store::Layout::check_tables` meets its contract: the first fault among all tables is the first among those that are left.
-- Assumes nothing.
use Prim.Native.Nat.{◌+◌, ◌-◌, ◌*◌, ◌≤◌}
use mathlib.Core.Path.{◌≡◌}
use Rattle.store.specs.Layout.{place_of, fault_from}
use Rattle.store.proofs.Layout.check_tables.Given as goal

abbrev pub invariant-loop-i : goal.invariant-loop-i
invariant-loop-i l = (l.at ≤ 8 + 1090650114 * l.i) × (l.at ≡ place_of l.self.cat.now l.self.n l.self.store.now l.i) × (fault_from l.self.cat.now l.self.n l.self.store.now l.self.n 0 8 ≡ fault_from l.self.cat.now l.self.n l.self.store.now (l.self.n - l.i) l.i l.at)
