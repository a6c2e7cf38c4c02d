-- `store::Layout::check_cells` meets its contract: the first fault among all cells is the first among those that are left.
-- Assumes nothing.
use Prim.Native.Nat.{◌+◌, ◌-◌}
use mathlib.Core.Path.{◌≡◌}
use Rattle.store.specs.Layout.{columns_from, cells_fault}
use Rattle.store.proofs.Layout.check_cells.Given as goal

abbrev pub invariant-loop-k : goal.invariant-loop-k
invariant-loop-k l = (columns_from l.self.cat.now (l.self.n - l.i) l.i + l.i ≡ columns_from l.self.cat.now (l.self.n - l.k) l.k + l.k) × (cells_fault l.self.cat.now l.self.store.now (l.self.n - l.i) l.i l.at 0 ≡ cells_fault l.self.cat.now l.self.store.now (l.self.n - l.k) l.k l.at (l.k - l.i))
