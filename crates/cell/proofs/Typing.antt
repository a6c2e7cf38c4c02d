-- Laws of types: digits in rule, words and types, equal types, and what the type rules give.
-- Assumes nothing.
use Prim.Native.Nat.{ℕ, zero, suc, ◌≤◌, ◌<◌, ◌/◌, ◌%◌, max}
use mathlib.Core.Path.{◌≡◌, refl, sym, ◌∙◌}
use mathlib.Core.Bool.{Bool, true, false, cond, ◌&&◌, ◌||◌, and-eq-true_iff, true≢false, false≢true}
use native.Mathlib.Omega.{arith}
use borrow.Author.Tests.{le-leb, leb-true, leb-false, eq-eqb, eqb-true}
use lib.Dec.{eqb, leb}
use Rattle.cell.specs.Res.{stuck, done}
use Rattle.cell.specs.Types.{digits_rule, type_rule, type_by, in_rule, word_of, kind_of, digits_of, scale_of, format_of, wider_of, both, if, sum_type, product_type, logic_type, order_type, equal_type, binop_type, same_type, limb_type}
use Rattle.cell.specs.declared.Type.{«Type» as Ty}
use Rattle.cell.specs.declared.Type.TheVariants.{Null, Boolean, Fixed, Time, Interval, Class}
use Rattle.cell.proofs.Ranges.{both_are}
use Rattle.cell.proofs.Judging.{rule_sum, rule_product, rule_logic, rule_below, rule_equal, rule_above, rule_none, rule_past}
use Rattle.cell.proofs.Words.{by_boolean, by_fixed, by_time, by_interval, by_class, rule_boolean, rule_fixed, rule_class, rule_low, rule_high}

-- ---- digits in rule

pub digits_facts : (p s : ℕ) → digits_rule p s ≡ true → (1 ≤ p) × (p ≤ 9) × (s ≤ 4) × (s ≤ p)
unfolding digits_rule
digits_facts p s e =
    let (a, b) = (and-eq-true_iff (leb 1 p && leb p 9) (leb s 4 && leb s p)).0 e in
    let (k, l) = (and-eq-true_iff (leb 1 p) (leb p 9)).0 a in
    let (m, n) = (and-eq-true_iff (leb s 4) (leb s p)).0 b in
    (leb-true 1 p k, leb-true p 9 l, leb-true s 4 m, leb-true s p n)

pub digits_in_rule : (p s : ℕ) → 1 ≤ p → p ≤ 9 → s ≤ 4 → s ≤ p → digits_rule p s ≡ true
unfolding digits_rule
digits_in_rule p s a b k l = rw (le-leb 1 p a, le-leb p 9 b, le-leb s 4 k, le-leb s p l)

-- the larger of two p with the larger of two s
pub digits_max : (p s q r : ℕ) → digits_rule p s ≡ true → digits_rule q r ≡ true → digits_rule (max p q) (max s r) ≡ true
digits_max p s q r e f =
    let (a, b, k, l) = digits_facts p s e in
    let (m, n, x, y) = digits_facts q r f in
    digits_in_rule (max p q) (max s r) (omega arith) (omega arith) (omega arith) (omega arith)

-- ---- a type is what its kind, digits, scale and format say

of_kind : ℕ → ℕ → ℕ → ℕ → Ty
of_kind k p s f =
    cond (eqb k 0) Null
    (cond (eqb k 1) Boolean
    (cond (eqb k 2) (Fixed p s)
    (cond (eqb k 3) (Time f)
    (cond (eqb k 4) (Interval f) Class))))

shape : (t : Ty) → t ≡ of_kind (kind_of t) (digits_of t) (scale_of t) (format_of t)
unfolding of_kind kind_of digits_of scale_of format_of
shape Null = refl
shape Boolean = refl
shape (Fixed p s) = refl
shape (Time f) = refl
shape (Interval f) = refl
shape Class = refl

module _ (t : Ty) where
  pub null_kind : kind_of t ≡ 0 → t ≡ Null
  unfolding of_kind
  null_kind e = shape t ∙ rw e

  pub boolean_kind : kind_of t ≡ 1 → t ≡ Boolean
  unfolding of_kind
  boolean_kind e = shape t ∙ rw e

  pub fixed_kind : kind_of t ≡ 2 → t ≡ Fixed (digits_of t) (scale_of t)
  unfolding of_kind
  fixed_kind e = shape t ∙ rw e

  pub time_kind : kind_of t ≡ 3 → t ≡ Time (format_of t)
  unfolding of_kind
  time_kind e = shape t ∙ rw e

  pub interval_kind : kind_of t ≡ 4 → t ≡ Interval (format_of t)
  unfolding of_kind
  interval_kind e = shape t ∙ rw e

  pub class_kind : kind_of t ≡ 5 → t ≡ Class
  unfolding of_kind
  class_kind e = shape t ∙ rw e

-- equal types are one
pub same_type_lem : (s t : Ty) → same_type s t ≡ true → s ≡ t
unfolding same_type
same_type_lem s t e =
    let (k, l) = (and-eq-true_iff (eqb (kind_of s) (kind_of t)) ((eqb (digits_of s) (digits_of t) && eqb (scale_of s) (scale_of t)) && eqb (format_of s) (format_of t))).0 e in
    let (m, n) = (and-eq-true_iff (eqb (digits_of s) (digits_of t) && eqb (scale_of s) (scale_of t)) (eqb (format_of s) (format_of t))).0 l in
    let (x, y) = (and-eq-true_iff (eqb (digits_of s) (digits_of t)) (eqb (scale_of s) (scale_of t))).0 m in
    shape s ∙ rw
    (eqb-true (kind_of s) (kind_of t) k, eqb-true (digits_of s) (digits_of t) x, eqb-true (scale_of s) (scale_of t) y, eqb-true (format_of s) (format_of t) n)
    (sym (shape t))

pub same_refl : (t : Ty) → same_type t t ≡ true
unfolding same_type
same_refl t =
    rw
    (eq-eqb (kind_of t) (kind_of t) refl, eq-eqb (digits_of t) (digits_of t) refl, eq-eqb (scale_of t) (scale_of t) refl, eq-eqb (format_of t) (format_of t) refl)

-- ---- words and types

-- the words that say a type
pub data Word (high low : ℕ) : Type 0 where
  word_boolean : high ≡ 1 → low ≡ 0 → Word high low
  word_fixed : high ≡ 2 → digits_rule (low / 16) (low % 16) ≡ true → Word high low
  word_time : high ≡ 3 → Word high low
  word_interval : high ≡ 4 → Word high low
  word_class : high ≡ 5 → low ≡ 0 → Word high low

pub words : (high low : ℕ) → type_rule high low ≡ true → Word high low
words zero low e = absurd (true≢false (sym e ∙ rule_low 0 low (omega arith)))
words (suc zero) low e = word_boolean refl (eqb-true low 0 (sym (rule_boolean 1 low refl) ∙ e))
words (suc (suc zero)) low e = word_fixed refl (sym (rule_fixed 2 low refl) ∙ e)
words (suc (suc (suc zero))) low e = word_time refl
words (suc (suc (suc (suc zero)))) low e = word_interval refl
words (suc (suc (suc (suc (suc zero))))) low e = word_class refl (eqb-true low 0 (sym (rule_class 5 low refl) ∙ e))
words (suc (suc (suc (suc (suc (suc n)))))) low e =
    absurd (true≢false (sym e ∙ rule_high (suc (suc (suc (suc (suc (suc n)))))) low (omega arith)))

-- a word in rule says a type in rule
pub by_in_rule : (high low : ℕ) → type_rule high low ≡ true → in_rule (type_by high low) ≡ true
unfolding in_rule
by_in_rule high low e = go (words high low e)
  where
    go : Word high low → in_rule (type_by high low) ≡ true
    go (word_boolean h l) = rw (by_boolean high low h)
    go (word_fixed h d) = rw (by_fixed high low h) d
    go (word_time h) = rw (by_time high low h)
    go (word_interval h) = rw (by_interval high low h)
    go (word_class h l) = rw (by_class high low h)

-- the digits of a fixed type that a word says
pub by_fixed_digits : (high low p s : ℕ) → type_rule high low ≡ true → type_by high low ≡ Fixed p s → digits_rule p s ≡ true
unfolding in_rule
by_fixed_digits high low p s e f = rw f at (by_in_rule high low e)

-- a word in rule is the word of the type that it says
pub word_type : (w : ℕ) → type_rule (w / 256) (w % 256) ≡ true → word_of (type_by (w / 256) (w % 256)) ≡ w
unfolding word_of
word_type w e = go (words (w / 256) (w % 256) e)
  where
    go : Word (w / 256) (w % 256) → word_of (type_by (w / 256) (w % 256)) ≡ w
    go (word_boolean h l) = rw (by_boolean (w / 256) (w % 256) h) (omega arith)
    go (word_fixed h d) = rw (by_fixed (w / 256) (w % 256) h) (omega arith)
    go (word_time h) = rw (by_time (w / 256) (w % 256) h) (omega arith)
    go (word_interval h) = rw (by_interval (w / 256) (w % 256) h) (omega arith)
    go (word_class h l) = rw (by_class (w / 256) (w % 256) h) (omega arith)

-- ---- the groups of operators, by their numbers

pub data Group (op : ℕ) : Type 0 where
  below_all : op < 1 → Group op
  sums : 1 ≤ op → op ≤ 2 → Group op
  products : 3 ≤ op → op ≤ 4 → Group op
  logics : 5 ≤ op → op ≤ 6 → Group op
  orders_below : 7 ≤ op → op < 9 → Group op
  equals : 9 ≤ op → op ≤ 10 → Group op
  orders_above : 10 < op → op ≤ 12 → Group op
  above_all : 12 < op → Group op

pub group : (op : ℕ) → Group op
group op = none (leb op 0) refl
  where
    all : (b : Bool) → leb op 12 ≡ b → 10 < op → Group op
    all true e h = orders_above h (leb-true op 12 e)
    all false e h = above_all (leb-false op 12 e)

    equal : (b : Bool) → leb op 10 ≡ b → 9 ≤ op → Group op
    equal true e h = equals h (leb-true op 10 e)
    equal false e h = all (leb op 12) refl (leb-false op 10 e)

    order : (b : Bool) → leb op 8 ≡ b → 7 ≤ op → Group op
    order true e h = orders_below h (omega (arith, leb-true op 8 e))
    order false e h = equal (leb op 10) refl (leb-false op 8 e)

    logic : (b : Bool) → leb op 6 ≡ b → 5 ≤ op → Group op
    logic true e h = logics h (leb-true op 6 e)
    logic false e h = order (leb op 8) refl (leb-false op 6 e)

    product : (b : Bool) → leb op 4 ≡ b → 3 ≤ op → Group op
    product true e h = products h (leb-true op 4 e)
    product false e h = logic (leb op 6) refl (leb-false op 4 e)

    sum : (b : Bool) → leb op 2 ≡ b → 1 ≤ op → Group op
    sum true e h = sums h (leb-true op 2 e)
    sum false e h = product (leb op 4) refl (leb-false op 2 e)

    none : (b : Bool) → leb op 0 ≡ b → Group op
    none true e = below_all (omega (arith, leb-true op 0 e))
    none false e = sum (leb op 2) refl (leb-false op 0 e)

-- ---- what each group takes and gives

pub data SumTy : Ty → Ty → Ty → Type 0 where
  sum_fixed : {p s q r : ℕ} → SumTy (Fixed p s) (Fixed q r) (Fixed (max p q) (max s r))
  sum_time : {f g : ℕ} → SumTy (Time f) (Interval g) (Time f)
  sum_interval : {f : ℕ} → SumTy (Interval f) (Interval f) (Interval f)

pub data ProductTy : Ty → Ty → Ty → Type 0 where
  fixed_product : {p s q r : ℕ} → ProductTy (Fixed p s) (Fixed q r) (Fixed (max p q) (max s r))
  interval_product : {f p s : ℕ} → ProductTy (Interval f) (Fixed p s) (Interval f)

pub data LogicTy : Ty → Ty → Type 0 where
  logic_boolean : LogicTy Boolean Boolean

pub data OrderTy : Ty → Ty → Type 0 where
  order_fixed : {p s q r : ℕ} → OrderTy (Fixed p s) (Fixed q r)
  order_time : {f g : ℕ} → OrderTy (Time f) (Time g)
  order_interval : {f g : ℕ} → OrderTy (Interval f) (Interval g)

pub data EqualTy : Ty → Ty → Type 0 where
  equal_null : {t : Ty} → EqualTy Null t
  equal_to_null : {s : Ty} → EqualTy s Null
  equal_boolean : EqualTy Boolean Boolean
  equal_fixed : {p s q r : ℕ} → EqualTy (Fixed p s) (Fixed q r)
  equal_time : {f g : ℕ} → EqualTy (Time f) (Time g)
  equal_interval : {f g : ℕ} → EqualTy (Interval f) (Interval g)
  equal_class : EqualTy Class Class

wider_is : (s t : Ty) → both 2 s t ≡ true →
    (s ≡ Fixed (digits_of s) (scale_of s)) × (t ≡ Fixed (digits_of t) (scale_of t)) × (wider_of s t ≡ Fixed (max (digits_of s) (digits_of t)) (max (scale_of s) (scale_of t)))
unfolding wider_of
wider_is s t e = let (a, b) = both_are (kind_of s) (kind_of t) 2 2 e in (fixed_kind s a, fixed_kind t b, refl)

-- a result that is given only where a test holds
if_done : (b : Bool) (t r : Ty) → if b t ≡ done r → (b ≡ true) × (t ≡ r)
if_done true t r e = (refl, cc)
if_done false t r e = let z : ◌≡◌ {A = ℕ} 0 1 = cc in absurd (omega arith)

sum_by : {s t r : Ty} (f g : ℕ) → s ≡ Interval f → t ≡ Interval g → f ≡ g → s ≡ r → SumTy s t r
sum_by f g e k h l = rw (← l, e, k, ← h) sum_interval

pub sum_ty : (s t r : Ty) → sum_type s t ≡ done r → SumTy s t r
unfolding sum_type digits_of scale_of
sum_ty s t r e = fixed (both 2 s t) refl e
  where
    time : (b : Bool) → (eqb (kind_of s) 3 && eqb (kind_of t) 4) ≡ b →
        cond b (done s) (if (both 4 s t && eqb (format_of s) (format_of t)) s) ≡ done r → SumTy s t r
    time true k h =
        let (a, b) = both_are (kind_of s) (kind_of t) 3 4 k in
        let l : s ≡ r = cc in
        rw (← l, time_kind s a, interval_kind t b) sum_time
    time false k h =
        let (a, l) = if_done (both 4 s t && eqb (format_of s) (format_of t)) s r h in
        let (b, f) = (and-eq-true_iff (both 4 s t) (eqb (format_of s) (format_of t))).0 a in
        let (x, y) = both_are (kind_of s) (kind_of t) 4 4 b in
        sum_by (format_of s) (format_of t) (interval_kind s x) (interval_kind t y) (eqb-true (format_of s) (format_of t) f) l

    fixed : (b : Bool) → both 2 s t ≡ b →
        cond b (done (wider_of s t)) (cond (eqb (kind_of s) 3 && eqb (kind_of t) 4) (done s) (if (both 4 s t && eqb (format_of s) (format_of t)) s)) ≡ done r →
        SumTy s t r
    fixed true k h =
        let (a, b, w) = wider_is s t k in
        let l : wider_of s t ≡ r = cc in
        rw (← l, w, a, b) sum_fixed
    fixed false k h = time (eqb (kind_of s) 3 && eqb (kind_of t) 4) refl h

pub product_ty : (s t r : Ty) → product_type s t ≡ done r → ProductTy s t r
unfolding product_type digits_of scale_of
product_ty s t r e = fixed (both 2 s t) refl e
  where
    fixed : (b : Bool) → both 2 s t ≡ b →
        cond b (done (wider_of s t)) (if (eqb (kind_of s) 4 && eqb (kind_of t) 2) s) ≡ done r → ProductTy s t r
    fixed true k h =
        let (a, b, w) = wider_is s t k in
        let l : wider_of s t ≡ r = cc in
        rw (← l, w, a, b) fixed_product
    fixed false k h =
        let (a, l) = if_done (eqb (kind_of s) 4 && eqb (kind_of t) 2) s r h in
        let (x, y) = both_are (kind_of s) (kind_of t) 4 2 a in
        rw (← l, interval_kind s x, fixed_kind t y) interval_product

pub logic_ty : (s t r : Ty) → logic_type s t ≡ done r → LogicTy s t × (Boolean ≡ r)
unfolding logic_type
logic_ty s t r e =
    let (a, l) = if_done (both 1 s t) Boolean r e in
    let (x, y) = both_are (kind_of s) (kind_of t) 1 1 a in
    (rw (boolean_kind s x, boolean_kind t y) logic_boolean, l)

order_by_lem : (s t : Ty) (k : ℕ) → kind_of s ≡ k → kind_of t ≡ k → 2 ≤ k → k ≤ 4 → OrderTy s t
order_by_lem s t zero e f a b = absurd (omega arith)
order_by_lem s t (suc zero) e f a b = absurd (omega arith)
order_by_lem s t (suc (suc zero)) e f a b = rw (fixed_kind s e, fixed_kind t f) order_fixed
order_by_lem s t (suc (suc (suc zero))) e f a b = rw (time_kind s e, time_kind t f) order_time
order_by_lem s t (suc (suc (suc (suc zero)))) e f a b = rw (interval_kind s e, interval_kind t f) order_interval
order_by_lem s t (suc (suc (suc (suc (suc n))))) e f a b = absurd (omega arith)

pub order_ty : (s t r : Ty) → order_type s t ≡ done r → OrderTy s t × (Boolean ≡ r)
unfolding order_type
order_ty s t r e =
    let (a, l) = if_done (eqb (kind_of s) (kind_of t) && (leb 2 (kind_of s) && leb (kind_of s) 4)) Boolean r e in
    let (x, y) = (and-eq-true_iff (eqb (kind_of s) (kind_of t)) (leb 2 (kind_of s) && leb (kind_of s) 4)).0 a in
    let (m, n) = (and-eq-true_iff (leb 2 (kind_of s)) (leb (kind_of s) 4)).0 y in
    (order_by_lem s t (kind_of s) refl (sym (eqb-true (kind_of s) (kind_of t) x)) (leb-true 2 (kind_of s) m) (leb-true (kind_of s) 4 n), l)

kind_bound : (t : Ty) → kind_of t ≤ 5
unfolding kind_of
kind_bound Null = omega arith
kind_bound Boolean = omega arith
kind_bound (Fixed p s) = omega arith
kind_bound (Time f) = omega arith
kind_bound (Interval f) = omega arith
kind_bound Class = omega arith

equal_by : (s t : Ty) (k : ℕ) → kind_of s ≡ k → kind_of t ≡ k → EqualTy s t
equal_by s t zero e f = rw (null_kind s e) equal_null
equal_by s t (suc zero) e f = rw (boolean_kind s e, boolean_kind t f) equal_boolean
equal_by s t (suc (suc zero)) e f = rw (fixed_kind s e, fixed_kind t f) equal_fixed
equal_by s t (suc (suc (suc zero))) e f = rw (time_kind s e, time_kind t f) equal_time
equal_by s t (suc (suc (suc (suc zero)))) e f = rw (interval_kind s e, interval_kind t f) equal_interval
equal_by s t (suc (suc (suc (suc (suc zero))))) e f = rw (class_kind s e, class_kind t f) equal_class
equal_by s t (suc (suc (suc (suc (suc (suc n)))))) e f = absurd (omega (arith, kind_bound s))

pub equal_ty : (s t r : Ty) → equal_type s t ≡ done r → EqualTy s t × (Boolean ≡ r)
unfolding equal_type
equal_ty s t r e =
    let (a, l) = if_done (eqb (kind_of s) (kind_of t) || (eqb (kind_of s) 0 || eqb (kind_of t) 0)) Boolean r e in
    (same (eqb (kind_of s) (kind_of t)) (eqb (kind_of s) 0) (eqb (kind_of t) 0) refl refl refl a, l)
  where
    same : (a b c : Bool) → eqb (kind_of s) (kind_of t) ≡ a → eqb (kind_of s) 0 ≡ b → eqb (kind_of t) 0 ≡ c → (a || (b || c)) ≡ true → EqualTy s t
    same true b c x y z h = equal_by s t (kind_of s) refl (sym (eqb-true (kind_of s) (kind_of t) x))
    same false true c x y z h = rw (null_kind s (eqb-true (kind_of s) 0 y)) equal_null
    same false false true x y z h = rw (null_kind t (eqb-true (kind_of t) 0 z)) equal_to_null
    same false false false x y z h = absurd (false≢true h)

-- ---- results are in rule

sum_in_rule : {s t r : Ty} → SumTy s t r → in_rule s ≡ true → in_rule t ≡ true → in_rule r ≡ true
unfolding in_rule
sum_in_rule (sum_fixed {p = p} {s = s} {q = q} {r = r}) f g = digits_max p s q r f g
sum_in_rule sum_time f g = refl
sum_in_rule sum_interval f g = refl

product_in_rule : {s t r : Ty} → ProductTy s t r → in_rule s ≡ true → in_rule t ≡ true → in_rule r ≡ true
unfolding in_rule
product_in_rule (fixed_product {p = p} {s = s} {q = q} {r = r}) f g = digits_max p s q r f g
product_in_rule interval_product f g = refl

boolean_in_rule : {r : Ty} → Boolean ≡ r → in_rule r ≡ true
unfolding in_rule
boolean_in_rule e = rw (← e)

-- a rule that is broken gives no type
pub never : {A : Type 0} {r : Ty} → stuck ≡ done r → A
never e = let z : ◌≡◌ {A = ℕ} 0 1 = cc in absurd (omega arith)

-- what an operator gives over types in rule is in rule
pub binop_in_rule : (op : ℕ) (s t r : Ty) → binop_type op s t ≡ done r → in_rule s ≡ true → in_rule t ≡ true → in_rule r ≡ true
binop_in_rule op s t r e f g = go (group op)
  where
    go : Group op → in_rule r ≡ true
    go (below_all a) = never (sym (rule_none op s t a) ∙ e)
    go (sums a b) = sum_in_rule (sum_ty s t r (sym (rule_sum op s t a b) ∙ e)) f g
    go (products a b) = product_in_rule (product_ty s t r (sym (rule_product op s t a b) ∙ e)) f g
    go (logics a b) = boolean_in_rule (logic_ty s t r (sym (rule_logic op s t a b) ∙ e)).1
    go (orders_below a b) = boolean_in_rule (order_ty s t r (sym (rule_below op s t a b) ∙ e)).1
    go (equals a b) = boolean_in_rule (equal_ty s t r (sym (rule_equal op s t a b) ∙ e)).1
    go (orders_above a b) = boolean_in_rule (order_ty s t r (sym (rule_above op s t a b) ∙ e)).1
    go (above_all a) = never (sym (rule_past op s t a) ∙ e)

-- IF's type: of two fixed types the wider one, else the one that both are
pub data LimbTy : Ty → Ty → Ty → Type 0 where
  limb_fixed : {p s q r : ℕ} → LimbTy (Fixed p s) (Fixed q r) (Fixed (max p q) (max s r))
  limb_same : {t : Ty} → LimbTy t t t

pub limb_ty : (s t r : Ty) → limb_type s t ≡ done r → LimbTy s t r
unfolding limb_type digits_of scale_of
limb_ty s t r e = fixed (both 2 s t) refl e
  where
    fixed : (b : Bool) → both 2 s t ≡ b → cond b (done (wider_of s t)) (if (same_type s t) s) ≡ done r → LimbTy s t r
    fixed true k h =
        let (a, b, w) = wider_is s t k in
        let l : wider_of s t ≡ r = cc in
        rw (← l, w, a, b) limb_fixed
    fixed false k h =
        let (a, l) = if_done (same_type s t) s r h in
        rw (← l, ← same_type_lem s t a) limb_same

pub limb_in_rule : (s t r : Ty) → limb_type s t ≡ done r → in_rule s ≡ true → in_rule t ≡ true → in_rule r ≡ true
unfolding in_rule
limb_in_rule s t r e f g = go (limb_ty s t r e) f g
  where
    go : {a b c : Ty} → LimbTy a b c → in_rule a ≡ true → in_rule b ≡ true → in_rule c ≡ true
    go (limb_fixed {p = p} {s = x} {q = q} {r = y}) h k = digits_max p x q y h k
    go limb_same h k = h
