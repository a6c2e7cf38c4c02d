-- Which type rule an operator takes, by the bounds of its number.
-- Assumes nothing.
use Prim.Native.Nat.{ℕ, ◌≤◌, ◌<◌}
use mathlib.Core.Path.{◌≡◌}
use native.Mathlib.Omega.{arith}
use Rattle.cell.specs.Res.{stuck}
use Rattle.cell.specs.Types.{sum_type, product_type, logic_type, order_type, equal_type, binop_type}
use Rattle.cell.specs.declared.Type.{«Type» as Ty}
use Rattle.cell.proofs.Ranges.{inside, under, over}

module _ (op : ℕ) (s t : Ty) where
  pub rule_sum : 1 ≤ op → op ≤ 2 → binop_type op s t ≡ sum_type s t
  unfolding binop_type
  rule_sum a b = rw (inside 1 2 op a b)

  pub rule_product : 3 ≤ op → op ≤ 4 → binop_type op s t ≡ product_type s t
  unfolding binop_type
  rule_product a b = rw (over 1 2 op (omega arith), inside 3 4 op a b)

  pub rule_logic : 5 ≤ op → op ≤ 6 → binop_type op s t ≡ logic_type s t
  unfolding binop_type
  rule_logic a b = rw (over 1 2 op (omega arith), over 3 4 op (omega arith), inside 5 6 op a b)

  pub rule_equal : 9 ≤ op → op ≤ 10 → binop_type op s t ≡ equal_type s t
  unfolding binop_type
  rule_equal a b =
      rw (over 1 2 op (omega arith), over 3 4 op (omega arith), over 5 6 op (omega arith), inside 9 10 op a b)

  pub rule_below : 7 ≤ op → op < 9 → binop_type op s t ≡ order_type s t
  unfolding binop_type
  rule_below a b =
      rw
      (over 1 2 op (omega arith), over 3 4 op (omega arith), over 5 6 op a, under 9 10 op b, inside 7 12 op a (omega arith))

  pub rule_above : 10 < op → op ≤ 12 → binop_type op s t ≡ order_type s t
  unfolding binop_type
  rule_above a b =
      rw
      (over 1 2 op (omega arith), over 3 4 op (omega arith), over 5 6 op (omega arith), over 9 10 op a, inside 7 12 op (omega arith) b)

  pub rule_none : op < 1 → binop_type op s t ≡ stuck
  unfolding binop_type
  rule_none a =
      rw
      (under 1 2 op a, under 3 4 op (omega arith), under 5 6 op (omega arith), under 9 10 op (omega arith), under 7 12 op (omega arith))

  pub rule_past : 12 < op → binop_type op s t ≡ stuck
  unfolding binop_type
  rule_past a =
      rw
      (over 1 2 op (omega arith), over 3 4 op (omega arith), over 5 6 op (omega arith), over 9 10 op (omega arith), over 7 12 op a)
