-- `store::Layout::end` meets its contract: the end from the first record on is the end from each later one.
-- Assumes nothing.
use Prim.Native.Nat.{◌+◌, ◌-◌, ◌*◌, ◌≤◌}
use mathlib.Core.Path.{◌≡◌}
use Rattle.store.specs.Layout.{end_from}
use Rattle.store.proofs.Layout.end.Given as goal

abbrev pub invariant-loop-i : goal.invariant-loop-i
invariant-loop-i l = (l.at ≤ 8 + 1090650114 * l.i) × (end_from l.self.cat.now l.self.n l.self.store.now l.self.n 0 8 ≡ end_from l.self.cat.now l.self.n l.self.store.now (l.self.n - l.i) l.i l.at)
