-- Which rule an operator on values follows, by the bounds of its number.
-- Assumes nothing.
use Prim.Native.Nat.{ℕ, ◌≤◌, ◌<◌}
use mathlib.Core.Path.{◌≡◌}
use mathlib.Core.Bool.{cond, not}
use native.Mathlib.Omega.{arith}
use lib.Dec.{eqb}
use Rattle.cell.specs.Res.{stuck, done, bind}
use Rattle.cell.specs.Apply.{sum_takes, sum_n, product_takes, product_n, order_takes, order_n, equal_v, or_null, logic_v, apply}
use Rattle.cell.specs.declared.Value.{Value}
use Rattle.cell.specs.declared.Value.TheVariants.{Truth}
use Rattle.cell.proofs.Ranges.{inside, under, over}

module _ (op p : ℕ) (u v : Value) where
  pub apply_sum : 1 ≤ op → op ≤ 2 → apply op p u v ≡ or_null sum_takes u v (sum_n op p u v)
  unfolding apply
  apply_sum a b = rw (inside 1 2 op a b)

  pub apply_product : 3 ≤ op → op ≤ 4 → apply op p u v ≡ or_null product_takes u v (product_n op p u v)
  unfolding apply
  apply_product a b = rw (over 1 2 op (omega arith), inside 3 4 op a b)

  pub apply_logic : 5 ≤ op → op ≤ 6 → apply op p u v ≡ logic_v op u v
  unfolding apply
  apply_logic a b = rw (over 1 2 op (omega arith), over 3 4 op (omega arith), inside 5 6 op a b)

  pub apply_equal : 9 ≤ op → op ≤ 10 → apply op p u v ≡ bind (equal_v u v) (λ b. done (Truth (cond (eqb op 9) b (not b))))
  unfolding apply
  apply_equal a b =
      rw (over 1 2 op (omega arith), over 3 4 op (omega arith), over 5 6 op (omega arith), inside 9 10 op a b)

  pub apply_below : 7 ≤ op → op < 9 → apply op p u v ≡ or_null order_takes u v (bind (order_n op u v) (λ b. done (Truth b)))
  unfolding apply
  apply_below a b =
      rw
      (over 1 2 op (omega arith), over 3 4 op (omega arith), over 5 6 op a, under 9 10 op b, inside 7 12 op a (omega arith))

  pub apply_above : 10 < op → op ≤ 12 → apply op p u v ≡ or_null order_takes u v (bind (order_n op u v) (λ b. done (Truth b)))
  unfolding apply
  apply_above a b =
      rw
      (over 1 2 op (omega arith), over 3 4 op (omega arith), over 5 6 op (omega arith), over 9 10 op a, inside 7 12 op (omega arith) b)

  pub apply_none : op < 1 → apply op p u v ≡ stuck
  unfolding apply
  apply_none a =
      rw
      (under 1 2 op a, under 3 4 op (omega arith), under 5 6 op (omega arith), under 9 10 op (omega arith), under 7 12 op (omega arith))

  pub apply_past : 12 < op → apply op p u v ≡ stuck
  unfolding apply
  apply_past a =
      rw
      (over 1 2 op (omega arith), over 3 4 op (omega arith), over 5 6 op (omega arith), over 9 10 op (omega arith), over 7 12 op a)
