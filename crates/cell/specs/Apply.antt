-- Operators on values: arithmetic cut towards zero, tests, three-valued logic, CONV. Defined for all values; stuck at an operand of a wrong kind.
-- Assumes nothing.
use Rattle.std.specs.Prelude.{ℕ, ◌+◌, ◌-◌, ◌^◌, max, min, Bool, true, false, cond, ◌&&◌, ◌||◌, not, eqb, leb, ℤ, pos, nat_abs, ◌+ℤ◌, ◌-ℤ◌, ◌*ℤ◌}
use Rattle.std.specs.Bool.{beq}
use Rattle.std.specs.Int.Signed.{lt_z, le_z, quot_z}
use Rattle.cell.specs.Res.{Res, stuck, done, bind}
use Rattle.cell.specs.Values.{digits, word32, is_null, as_truth, as_fixed, as_time, as_interval, as_class, kind_v}
use Rattle.cell.specs.declared.Value.{Value}
use Rattle.cell.specs.declared.Value.TheVariants.{Null, Truth, Fixed, Time, Interval, Class}

-- three-valued logic: null stands for what isn't known
pub data Three : Type 0 where
  no yes unknown : Three

abbrev pub and3 : Three → Three → Three
and3 no y = no
and3 yes y = y
and3 unknown no = no
and3 unknown yes = unknown
and3 unknown unknown = unknown

abbrev pub not3 : Three → Three
not3 no = yes
not3 yes = no
not3 unknown = unknown

abbrev pub or3 : Three → Three → Three
or3 x y = not3 (and3 (not3 x) (not3 y))

unfoldable pub of3 : Three → Value
of3 no = Truth false
of3 yes = Truth true
of3 unknown = Null

unfoldable pub as3 : Value → Res Three
as3 v = cond (is_null v) (done unknown) (bind (as_truth v) (λ b. done (cond b yes no)))

-- true only on true
abbrev pub is3 : Three → Bool
is3 no = false
is3 yes = true
is3 unknown = false

unfoldable pub as_cond : Value → Res Bool
as_cond v = bind (as3 v) (λ x. done (is3 x))

-- results that fit, else null
unfoldable pub cut_fixed : ℕ → ℕ → ℤ → Value
cut_fixed p s m = cond (digits p m) (Fixed s m) Null

unfoldable pub cut_time : ℤ → Value
cut_time m = cond (word32 m) (Time m) Null

unfoldable pub cut_interval : ℤ → Value
cut_interval m = cond (word32 m) (Interval m) Null

-- m at scale s brought to the scale r, which is at least s
abbrev pub up_to : ℕ → ℕ → ℤ → ℤ
up_to r s m = m *ℤ pos (10 ^ (r - s))

-- 1 plus, 2 minus
abbrev pub sum_z : ℕ → ℤ → ℤ → ℤ
sum_z op m n = cond (eqb op 1) (m +ℤ n) (m -ℤ n)

-- 7 <, 8 <=, 11 >=, 12 >
abbrev pub order_z : ℕ → ℤ → ℤ → Bool
order_z op m n = cond (eqb op 7) (lt_z m n) (cond (eqb op 8) (le_z m n) (cond (eqb op 11) (le_z n m) (lt_z n m)))

abbrev pub equal_z : ℤ → ℤ → Bool
equal_z m n = le_z m n && le_z n m

-- cut towards zero; a zero divisor gives null
abbrev pub quotient : ℤ → ℤ → (ℤ → Value) → Value
quotient m n f = cond (eqb (nat_abs n) 0) Null (f (quot_z m n))

-- 3 times divides m × n by 10^min(s, r), 4 divide takes m × 10^(max(s, r) - s + r) by n
unfoldable pub product_fixed : ℕ → ℕ → ℕ → ℤ → ℕ → ℤ → Value
product_fixed op p s m r n =
    cond (eqb op 3) (cut_fixed p (max s r) (quot_z (m *ℤ n) (pos (10 ^ min s r))))
    (quotient (m *ℤ pos (10 ^ (max s r - s + r))) n (cut_fixed p (max s r)))

-- an interval i by a fixed m at scale s: i × m / 10^s, and i × 10^s / m
unfoldable pub product_interval : ℕ → ℤ → ℕ → ℤ → Value
product_interval op i s m =
    cond (eqb op 3) (cut_interval (quot_z (i *ℤ m) (pos (10 ^ s)))) (quotient (i *ℤ pos (10 ^ s)) m cut_interval)

-- a result of p digits; p above 9 is out of rule
abbrev pub ruled : ℕ → Value → Res Value
ruled p v = cond (leb p 9) (done v) stuck

-- the operators where neither operand is null
unfoldable pub sum_n : ℕ → ℕ → Value → Value → Res Value
sum_n op p (Fixed s m) v =
    bind (as_fixed (Fixed s m)) (λ x.
    bind (as_fixed v) (λ y.
    ruled p (cut_fixed p (max x.0 y.0) (sum_z op (up_to (max x.0 y.0) x.0 x.1) (up_to (max x.0 y.0) y.0 y.1)))))
sum_n op p (Time m) v = bind (as_interval v) (λ n. done (cut_time (sum_z op m n)))
sum_n op p (Interval m) v = bind (as_interval v) (λ n. done (cut_interval (sum_z op m n)))
sum_n op p _ v = stuck

unfoldable pub product_n : ℕ → ℕ → Value → Value → Res Value
product_n op p (Fixed s m) v =
    bind (as_fixed (Fixed s m)) (λ x. bind (as_fixed v) (λ y. ruled p (product_fixed op p x.0 x.1 y.0 y.1)))
product_n op p (Interval m) v = bind (as_fixed v) (λ y. done (product_interval op m y.0 y.1))
product_n op p _ v = stuck

unfoldable pub order_n : ℕ → Value → Value → Res Bool
order_n op (Fixed s m) v =
    bind (as_fixed (Fixed s m)) (λ x.
    bind (as_fixed v) (λ y.
    done (order_z op (up_to (max x.0 y.0) x.0 x.1) (up_to (max x.0 y.0) y.0 y.1))))
order_n op (Time m) v = bind (as_time v) (λ n. done (order_z op m n))
order_n op (Interval m) v = bind (as_interval v) (λ n. done (order_z op m n))
order_n op _ v = stuck

unfoldable pub equal_n : Value → Value → Res Bool
equal_n (Truth a) v = bind (as_truth v) (λ b. done (beq a b))
equal_n (Fixed s m) v =
    bind (as_fixed (Fixed s m)) (λ x.
    bind (as_fixed v) (λ y.
    done (equal_z (up_to (max x.0 y.0) x.0 x.1) (up_to (max x.0 y.0) y.0 y.1))))
equal_n (Time m) v = bind (as_time v) (λ n. done (equal_z m n))
equal_n (Interval m) v = bind (as_interval v) (λ n. done (equal_z m n))
equal_n (Class a) v = bind (as_class v) (λ b. done (eqb a b))
equal_n Null v = stuck

-- what may stand left and right of null, by kind: a wrong kind is stuck beside null too
abbrev pub sum_takes : ℕ → ℕ → Bool
sum_takes i j = (eqb i 0 || (leb 2 i && leb i 4)) && (eqb j 0 || (eqb j 2 || eqb j 4))

abbrev pub product_takes : ℕ → ℕ → Bool
product_takes i j = (eqb i 0 || (eqb i 2 || eqb i 4)) && (eqb j 0 || eqb j 2)

abbrev pub order_takes : ℕ → ℕ → Bool
order_takes i j = (eqb i 0 || (leb 2 i && leb i 4)) && (eqb j 0 || (leb 2 j && leb j 4))

-- null in arithmetic or an order test gives null
unfoldable pub or_null : (ℕ → ℕ → Bool) → Value → Value → Res Value → Res Value
or_null takes u v r = cond (is_null u || is_null v) (cond (takes (kind_v u) (kind_v v)) (done Null) stuck) r

-- = always gives true or false; null equals null
unfoldable pub equal_v : Value → Value → Res Bool
equal_v u v = cond (is_null u || is_null v) (done (is_null u && is_null v)) (equal_n u v)

-- the left operand of and, or decides alone: false and, true or
unfoldable pub settled : ℕ → Value → Bool
settled op (Truth b) = (eqb op 5 && not b) || (eqb op 6 && b)
settled op _ = false

-- 5 and, 6 or
unfoldable pub logic_v : ℕ → Value → Value → Res Value
logic_v op u v =
    cond (settled op u) (done u)
    (bind (as3 u) (λ x. bind (as3 v) (λ y. done (of3 (cond (eqb op 5) (and3 x y) (or3 x y))))))

-- THE OPERATOR op on two values; p is the number of digits of the result where it is fixed
unfoldable pub apply : ℕ → ℕ → Value → Value → Res Value
apply op p u v =
    cond (leb 1 op && leb op 2) (or_null sum_takes u v (sum_n op p u v))
    (cond (leb 3 op && leb op 4) (or_null product_takes u v (product_n op p u v))
    (cond (leb 5 op && leb op 6) (logic_v op u v)
    (cond (leb 9 op && leb op 10) (bind (equal_v u v) (λ b. done (Truth (cond (eqb op 9) b (not b)))))
    (cond (leb 7 op && leb op 12) (or_null order_takes u v (bind (order_n op u v) (λ b. done (Truth b))))
    stuck))))

-- NOT
unfoldable pub negate : Value → Res Value
negate u = bind (as3 u) (λ x. done (of3 (not3 x)))

-- CONV to p digits at scale r: brought up, or cut towards zero
unfoldable pub convert : ℕ → ℕ → Value → Res Value
convert p r v =
    cond (is_null v) (done Null)
    (bind (as_fixed v) (λ x.
    cond (leb p 9 && leb r 4) (done (cut_fixed p r (quot_z (x.1 *ℤ pos (10 ^ (r - x.0))) (pos (10 ^ (x.0 - r)))))) stuck))
