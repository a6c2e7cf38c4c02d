-- `store::ten` meets its contract: a rule of the table, at each of its entries.
-- Assumes nothing.
use Prim.Native.Nat.{◌^◌}
use mathlib.Core.List.{[], ◌∷◌}
use Rattle.store.proofs.Table.{rule}
use Rattle.store.proofs.ten.Goals as goal

pub returns : goal.returns
returns c =
    rw c.from.ensures
    (rule (λ n. 10 ^ n)
    (1 ∷ 10 ∷ 100 ∷ 1000 ∷ 10000 ∷ 100000 ∷ 1000000 ∷ 10000000 ∷ 100000000 ∷ 1000000000 ∷ 10000000000 ∷ 100000000000 ∷ 1000000000000 ∷ 10000000000000 ∷ 100000000000000 ∷ 1000000000000000 ∷ [])
    tt c.args.n c.requires)
