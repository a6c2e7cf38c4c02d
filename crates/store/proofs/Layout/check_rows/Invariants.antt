-- `store::Layout::check_rows` meets its contract: the first fault among all rows is the first among those that are left.
-- Assumes nothing.
use Prim.Native.Nat.{◌+◌, ◌-◌, ◌*◌}
use mathlib.Core.Path.{◌≡◌}
use Rattle.store.specs.Layout.{rows_fault}
use Rattle.store.proofs.Layout.check_rows.Given as goal

abbrev pub invariant-loop-r : goal.invariant-loop-r
invariant-loop-r l = rows_fault l.self.cat.now l.self.n l.self.store.now l.i l.rows (l.at + 2) l.size ≡ rows_fault l.self.cat.now l.self.n l.self.store.now l.i (l.rows - l.r) (l.at + 2 + l.r * l.size) l.size
