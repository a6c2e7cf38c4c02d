-- The catalogue's word of a type: what each of its high bytes says.
-- Assumes nothing.
use Prim.Native.Nat.{ℕ, ◌<◌, ◌/◌, ◌%◌}
use mathlib.Core.Path.{◌≡◌, refl}
use mathlib.Core.Bool.{Bool, true, false, ◌||◌}
use native.Mathlib.Omega.{arith}
use borrow.Author.Tests.{le-leb, lt-leb, ne_eqb}
use lib.Dec.{eqb}
use Rattle.cell.specs.Types.{digits_rule, type_rule, type_by}
use Rattle.cell.specs.declared.Type.TheVariants.{Null, Boolean, Fixed, Time, Interval, Class}

module _ (high low : ℕ) where
  pub by_boolean : high ≡ 1 → type_by high low ≡ Boolean
  unfolding type_by
  by_boolean e = rw e

  pub by_fixed : high ≡ 2 → type_by high low ≡ Fixed (low / 16) (low % 16)
  unfolding type_by
  by_fixed e = rw e

  pub by_time : high ≡ 3 → type_by high low ≡ Time low
  unfolding type_by
  by_time e = rw e

  pub by_interval : high ≡ 4 → type_by high low ≡ Interval low
  unfolding type_by
  by_interval e = rw e

  pub by_class : high ≡ 5 → type_by high low ≡ Class
  unfolding type_by
  by_class e = rw e

  pub by_none : (high ≡ 1 → ⊥) → (high ≡ 2 → ⊥) → (high ≡ 3 → ⊥) → (high ≡ 4 → ⊥) → (high ≡ 5 → ⊥) → type_by high low ≡ Null
  unfolding type_by
  by_none a b c d e = rw (ne_eqb high 1 a, ne_eqb high 2 b, ne_eqb high 3 c, ne_eqb high 4 d, ne_eqb high 5 e)

  pub rule_boolean : high ≡ 1 → type_rule high low ≡ eqb low 0
  unfolding type_rule
  rule_boolean e = rw e (or_no (eqb low 0))
    where
      or_no : (b : Bool) → (b || false) ≡ b
      or_no true = refl
      or_no false = refl

  pub rule_fixed : high ≡ 2 → type_rule high low ≡ digits_rule (low / 16) (low % 16)
  unfolding type_rule
  rule_fixed e = rw e (or_no (digits_rule (low / 16) (low % 16)))
    where
      or_no : (b : Bool) → (b || false) ≡ b
      or_no true = refl
      or_no false = refl

  pub rule_class : high ≡ 5 → type_rule high low ≡ eqb low 0
  unfolding type_rule
  rule_class e = rw e

  pub rule_low : high < 1 → type_rule high low ≡ false
  unfolding type_rule
  rule_low a = rw (ne_eqb high 1 (λ e. omega arith), ne_eqb high 2 (λ e. omega arith), lt-leb 3 high (omega arith), ne_eqb high 5 (λ e. omega arith))

  pub rule_high : 5 < high → type_rule high low ≡ false
  unfolding type_rule
  rule_high a = rw (ne_eqb high 1 (λ e. omega arith), ne_eqb high 2 (λ e. omega arith), le-leb 3 high (omega arith), lt-leb high 4 (omega arith), ne_eqb high 5 (λ e. omega arith))
