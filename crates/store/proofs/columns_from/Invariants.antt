-- `store::columns_from` meets its contract: what is left of the records decides.
-- Assumes nothing.
use Prim.Native.Nat.{◌+◌, ◌-◌}
use mathlib.Core.Path.{◌≡◌}
use Rattle.store.specs.Layout.{columns_from}
use Rattle.store.proofs.columns_from.Given as goal

abbrev pub invariant-loop-k : goal.invariant-loop-k
invariant-loop-k l = columns_from l.cat (l.n - l.i) l.i + l.i ≡ columns_from l.cat (l.n - l.k) l.k + l.k
