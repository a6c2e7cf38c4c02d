-- THE LAW of types and values: an operator over operands of types that its rule takes isn't stuck, and gives null or a value of the rule's type.
-- Assumes nothing.
use Prim.Native.Nat.{ℕ, ◌≤◌, ◌-◌, ◌+◌, ◌^◌, max}
use mathlib.Core.Path.{◌≡◌, refl, sym, ◌∙◌, subst}
use mathlib.Core.Bool.{Bool, true, false, cond, not, ◌&&◌, ◌||◌, So, and-eq-true_iff, or-true, true≢false, false≢true}
use native.Mathlib.Omega.{arith}
use borrow.Author.Tests.{le-leb, eqb-true}
use lib.Dec.{eqb, leb}
use lib.IntN.{ℤ, pos, nat_abs, ◌*ℤ◌}
use lib.Signed.{quot_z}
use Rattle.cell.specs.Res.{Res, done, bind}
use Rattle.cell.specs.Types.{digits_rule, in_rule, digits_of, scale_of, binop_type, same_type, limb_type}
use Rattle.cell.specs.Values.{digits, word32, HasTy, ok_null, ok_truth, ok_fixed, ok_time, ok_interval, ok_class, is_null, as_truth, as_fixed, as_time, as_interval, as_class, kind_v}
use Rattle.cell.specs.Apply.{Three, no, yes, unknown, and3, or3, not3, of3, as3, is3, as_cond, cut_fixed, cut_time, cut_interval, up_to, sum_z, quotient, product_fixed, product_interval, sum_takes, sum_n, product_takes, product_n, order_takes, order_n, equal_n, equal_v, or_null, settled, logic_v, apply, negate, convert}
use Rattle.cell.specs.declared.Type.{«Type» as Ty}
use Rattle.cell.specs.declared.Type.TheVariants as T
use Rattle.cell.specs.declared.Value.{Value}
use Rattle.cell.specs.declared.Value.TheVariants.{Null, Truth, Fixed, Time, Interval, Class}
use Rattle.cell.proofs.Judging.{rule_sum, rule_product, rule_logic, rule_below, rule_equal, rule_above, rule_none, rule_past}
use Rattle.cell.proofs.Typing.{digits_facts, digits_max, same_type_lem, same_refl, never, Group, below_all, sums, products, logics, orders_below, equals, orders_above, above_all, group, SumTy, sum_fixed, sum_time, sum_interval, sum_ty, ProductTy, fixed_product, interval_product, product_ty, LogicTy, logic_boolean, logic_ty, OrderTy, order_fixed, order_time, order_interval, order_ty, EqualTy, equal_null, equal_to_null, equal_boolean, equal_fixed, equal_time, equal_interval, equal_class, equal_ty, LimbTy, limb_fixed, limb_same, limb_ty}
use Rattle.cell.proofs.Applying.{apply_sum, apply_product, apply_logic, apply_below, apply_equal, apply_above}

-- an outcome that is a value of the type, or null
abbrev pub Gives : Ty → Res Value → Type 0
Gives t r = (w : Value) × (r ≡ done w) × HasTy t w

-- ---- values of a type

-- the scale of a fixed value that is of a type
scale_in : (p s : ℕ) (m : ℤ) → (digits_rule p s && digits p m) ≡ true → leb s 4 ≡ true
scale_in p s m e =
    let (a, b) = (and-eq-true_iff (digits_rule p s) (digits p m)).0 e in
    let (k, l, x, y) = digits_facts p s a in
    le-leb s 4 x

rule_in : (p s : ℕ) (m : ℤ) → (digits_rule p s && digits p m) ≡ true → digits_rule p s ≡ true
rule_in p s m e = ((and-eq-true_iff (digits_rule p s) (digits p m)).0 e).0

digits_in : (p s : ℕ) → digits_rule p s ≡ true → leb p 9 ≡ true
digits_in p s e = let (k, l, x, y) = digits_facts p s e in le-leb p 9 l

-- a value of the type, or null where it doesn't fit
fits : (t : Ty) (b : Bool) (v : Value) → (So b → HasTy t v) → HasTy t (cond b v Null)
fits t true v h = h refl
fits t false v h = ok_null

pub fixed_fits : (p s : ℕ) (m : ℤ) → digits_rule p s ≡ true → HasTy (T.Fixed p s) (cut_fixed p s m)
unfolding cut_fixed
fixed_fits p s m e = fits (T.Fixed p s) (digits p m) (Fixed s m) (λ h. ok_fixed (rw (e, h)))

time_fits : (f : ℕ) (m : ℤ) → HasTy (T.Time f) (cut_time m)
unfolding cut_time
time_fits f m = fits (T.Time f) (word32 m) (Time m) ok_time

interval_fits : (f : ℕ) (m : ℤ) → HasTy (T.Interval f) (cut_interval m)
unfolding cut_interval
interval_fits f m = fits (T.Interval f) (word32 m) (Interval m) ok_interval

pub either : (t : Ty) (b : Bool) (v w : Value) → HasTy t v → HasTy t w → HasTy t (cond b v w)
either t true v w h k = h
either t false v w h k = k

quotient_fits : (t : Ty) (m n : ℤ) (f : ℤ → Value) → ((k : ℤ) → HasTy t (f k)) → HasTy t (quotient m n f)
quotient_fits t m n f h = either t (eqb (nat_abs n) 0) Null (f (quot_z m n)) ok_null (h (quot_z m n))

product_fits : (op p s : ℕ) (m : ℤ) (r : ℕ) (n : ℤ) → digits_rule p (max s r) ≡ true → HasTy (T.Fixed p (max s r)) (product_fixed op p s m r n)
unfolding product_fixed
product_fits op p s m r n e =
    either (T.Fixed p (max s r)) (eqb op 3) _ _ (fixed_fits p (max s r) _ e)
    (quotient_fits (T.Fixed p (max s r)) (m *ℤ pos (10 ^ (max s r - s + r))) n (cut_fixed p (max s r)) (λ k. fixed_fits p (max s r) k e))

interval_product_fits : (op f : ℕ) (i : ℤ) (s : ℕ) (m : ℤ) → HasTy (T.Interval f) (product_interval op i s m)
unfolding product_interval
interval_product_fits op f i s m =
    either (T.Interval f) (eqb op 3) _ _ (interval_fits f _)
    (quotient_fits (T.Interval f) (i *ℤ pos (10 ^ s)) m cut_interval (interval_fits f))

-- ---- the groups of operators

sum_sound : {s t r : Ty} {u v : Value} (op : ℕ) → SumTy s t r → HasTy s u → HasTy t v → Gives r (or_null sum_takes u v (sum_n op (digits_of r) u v))
unfolding or_null sum_n is_null kind_v as_fixed as_interval bind digits_of
sum_sound op sum_fixed ok_null ok_null = (Null, refl, ok_null)
sum_sound op sum_fixed ok_null (ok_fixed {p = q} {s = r} {m = n} k) = rw (scale_in q r n k) (Null, refl, ok_null)
sum_sound op sum_fixed (ok_fixed {p = p} {s = s} {m = m} h) ok_null = rw (scale_in p s m h) (Null, refl, ok_null)
sum_sound op sum_fixed (ok_fixed {p = p} {s = s} {m = m} h) (ok_fixed {p = q} {s = r} {m = n} k) =
    let e = digits_max p s q r (rule_in p s m h) (rule_in q r n k) in
    rw (scale_in p s m h, scale_in q r n k, digits_in (max p q) (max s r) e)
    (_, refl, fixed_fits (max p q) (max s r) (sum_z op (up_to (max s r) s m) (up_to (max s r) r n)) e)
sum_sound op sum_time ok_null ok_null = (Null, refl, ok_null)
sum_sound op sum_time ok_null (ok_interval k) = (Null, refl, ok_null)
sum_sound op sum_time (ok_time h) ok_null = (Null, refl, ok_null)
sum_sound op (sum_time {f = f}) (ok_time {m = m} h) (ok_interval {m = n} k) = (_, refl, time_fits f (sum_z op m n))
sum_sound op sum_interval ok_null ok_null = (Null, refl, ok_null)
sum_sound op sum_interval ok_null (ok_interval k) = (Null, refl, ok_null)
sum_sound op sum_interval (ok_interval h) ok_null = (Null, refl, ok_null)
sum_sound op (sum_interval {f = f}) (ok_interval {m = m} h) (ok_interval {m = n} k) = (_, refl, interval_fits f (sum_z op m n))

product_sound : {s t r : Ty} {u v : Value} (op : ℕ) → ProductTy s t r → HasTy s u → HasTy t v →
    Gives r (or_null product_takes u v (product_n op (digits_of r) u v))
unfolding or_null product_n is_null kind_v as_fixed bind digits_of
product_sound op fixed_product ok_null ok_null = (Null, refl, ok_null)
product_sound op fixed_product ok_null (ok_fixed {p = q} {s = r} {m = n} k) = rw (scale_in q r n k) (Null, refl, ok_null)
product_sound op fixed_product (ok_fixed {p = p} {s = s} {m = m} h) ok_null = rw (scale_in p s m h) (Null, refl, ok_null)
product_sound op fixed_product (ok_fixed {p = p} {s = s} {m = m} h) (ok_fixed {p = q} {s = r} {m = n} k) =
    let e = digits_max p s q r (rule_in p s m h) (rule_in q r n k) in
    rw (scale_in p s m h, scale_in q r n k, digits_in (max p q) (max s r) e)
    (_, refl, product_fits op (max p q) s m r n e)
product_sound op interval_product ok_null ok_null = (Null, refl, ok_null)
product_sound op interval_product ok_null (ok_fixed {p = q} {s = r} {m = n} k) = rw (scale_in q r n k) (Null, refl, ok_null)
product_sound op interval_product (ok_interval h) ok_null = (Null, refl, ok_null)
product_sound op (interval_product {f = f}) (ok_interval {m = i} h) (ok_fixed {p = q} {s = r} {m = n} k) =
    rw (scale_in q r n k) (_, refl, interval_product_fits op f i r n)

of3_has : (x : Three) → HasTy T.Boolean (of3 x)
unfolding of3
of3_has no = ok_truth
of3_has yes = ok_truth
of3_has unknown = ok_null

as3_done : {v : Value} → HasTy T.Boolean v → (x : Three) × (as3 v ≡ done x)
unfolding as3 is_null as_truth bind
as3_done ok_null = (unknown, refl)
as3_done (ok_truth {b = b}) = (cond b yes no, refl)

logic_sound : {s t : Ty} {u v : Value} (op : ℕ) → LogicTy s t → HasTy s u → HasTy t v → Gives T.Boolean (logic_v op u v)
unfolding logic_v bind
logic_sound {u = u} {v = v} op logic_boolean h k = go (settled op u)
  where
    go : (b : Bool) → Gives T.Boolean (cond b (done u) (bind (as3 u) (λ x. bind (as3 v) (λ y. done (of3 (cond (eqb op 5) (and3 x y) (or3 x y)))))))
    go true = (u, refl, h)
    go false =
        let (x, e) = as3_done h in
        let (y, f) = as3_done k in
        (of3 (cond (eqb op 5) (and3 x y) (or3 x y)), rw (e, f), of3_has (cond (eqb op 5) (and3 x y) (or3 x y)))

order_sound : {s t : Ty} {u v : Value} (op : ℕ) → OrderTy s t → HasTy s u → HasTy t v →
    Gives T.Boolean (or_null order_takes u v (bind (order_n op u v) (λ b. done (Truth b))))
unfolding or_null order_n is_null kind_v as_fixed as_time as_interval bind
order_sound op order_fixed ok_null ok_null = (Null, refl, ok_null)
order_sound op order_fixed ok_null (ok_fixed {p = q} {s = r} {m = n} k) = rw (scale_in q r n k) (Null, refl, ok_null)
order_sound op order_fixed (ok_fixed {p = p} {s = s} {m = m} h) ok_null = rw (scale_in p s m h) (Null, refl, ok_null)
order_sound op order_fixed (ok_fixed {p = p} {s = s} {m = m} h) (ok_fixed {p = q} {s = r} {m = n} k) =
    rw (scale_in p s m h, scale_in q r n k) (_, refl, ok_truth)
order_sound op order_time ok_null ok_null = (Null, refl, ok_null)
order_sound op order_time ok_null (ok_time k) = (Null, refl, ok_null)
order_sound op order_time (ok_time h) ok_null = (Null, refl, ok_null)
order_sound op order_time (ok_time h) (ok_time k) = (_, refl, ok_truth)
order_sound op order_interval ok_null ok_null = (Null, refl, ok_null)
order_sound op order_interval ok_null (ok_interval k) = (Null, refl, ok_null)
order_sound op order_interval (ok_interval h) ok_null = (Null, refl, ok_null)
order_sound op order_interval (ok_interval h) (ok_interval k) = (_, refl, ok_truth)

equal_done : {s t : Ty} {u v : Value} → EqualTy s t → HasTy s u → HasTy t v → (b : Bool) × (equal_v u v ≡ done b)
unfolding equal_v equal_n is_null as_truth as_fixed as_time as_interval as_class bind
equal_done equal_null ok_null k = (_, refl)
equal_done {u = u} equal_to_null h ok_null = (is_null u && true, rw (or-true (is_null u)))
equal_done equal_boolean ok_null k = (_, refl)
equal_done equal_boolean ok_truth ok_null = (_, refl)
equal_done equal_boolean ok_truth ok_truth = (_, refl)
equal_done equal_fixed ok_null k = (_, refl)
equal_done equal_fixed (ok_fixed h) ok_null = (_, refl)
equal_done equal_fixed (ok_fixed {p = p} {s = s} {m = m} h) (ok_fixed {p = q} {s = r} {m = n} k) = rw (scale_in p s m h, scale_in q r n k) (_, refl)
equal_done equal_time ok_null k = (_, refl)
equal_done equal_time (ok_time h) ok_null = (_, refl)
equal_done equal_time (ok_time h) (ok_time k) = (_, refl)
equal_done equal_interval ok_null k = (_, refl)
equal_done equal_interval (ok_interval h) ok_null = (_, refl)
equal_done equal_interval (ok_interval h) (ok_interval k) = (_, refl)
equal_done equal_class ok_null k = (_, refl)
equal_done equal_class (ok_class h) ok_null = (_, refl)
equal_done equal_class (ok_class h) (ok_class k) = (_, refl)

equal_sound : {s t : Ty} {u v : Value} (op : ℕ) → EqualTy s t → HasTy s u → HasTy t v →
    Gives T.Boolean (bind (equal_v u v) (λ b. done (Truth (cond (eqb op 9) b (not b)))))
unfolding bind
equal_sound op q h k = let (b, e) = equal_done q h k in (Truth (cond (eqb op 9) b (not b)), rw e, ok_truth)

pub apply_sound : (op : ℕ) (s t r : Ty) {u v : Value} → binop_type op s t ≡ done r → HasTy s u → HasTy t v → Gives r (apply op (digits_of r) u v)
apply_sound op s t r {u} {v} e h k = go (group op)
  where
    go : Group op → Gives r (apply op (digits_of r) u v)
    go (below_all a) = never (sym (rule_none op s t a) ∙ e)
    go (sums a b) = rw (apply_sum op (digits_of r) u v a b) (sum_sound op (sum_ty s t r (sym (rule_sum op s t a b) ∙ e)) h k)
    go (products a b) =
        rw (apply_product op (digits_of r) u v a b) (product_sound op (product_ty s t r (sym (rule_product op s t a b) ∙ e)) h k)
    go (logics a b) =
        let (q, l) = logic_ty s t r (sym (rule_logic op s t a b) ∙ e) in
        rw (apply_logic op (digits_of r) u v a b, ← l) (logic_sound op q h k)
    go (orders_below a b) =
        let (q, l) = order_ty s t r (sym (rule_below op s t a b) ∙ e) in
        rw (apply_below op (digits_of r) u v a b, ← l) (order_sound op q h k)
    go (equals a b) =
        let (q, l) = equal_ty s t r (sym (rule_equal op s t a b) ∙ e) in
        rw (apply_equal op (digits_of r) u v a b, ← l) (equal_sound op q h k)
    go (orders_above a b) =
        let (q, l) = order_ty s t r (sym (rule_above op s t a b) ∙ e) in
        rw (apply_above op (digits_of r) u v a b, ← l) (order_sound op q h k)
    go (above_all a) = never (sym (rule_past op s t a) ∙ e)

-- ---- NOT, conditions, CONV, and IF's limbs

pub negate_sound : {u : Value} → HasTy T.Boolean u → Gives T.Boolean (negate u)
unfolding negate bind
negate_sound h = let (x, e) = as3_done h in (of3 (not3 x), rw e, of3_has (not3 x))

pub cond_sound : {v : Value} → HasTy T.Boolean v → (b : Bool) × (as_cond v ≡ done b)
unfolding as_cond bind
cond_sound h = let (x, e) = as3_done h in (is3 x, rw e)

pub convert_sound : {q s : ℕ} {v : Value} (p r : ℕ) → digits_rule p r ≡ true → HasTy (T.Fixed q s) v → Gives (T.Fixed p r) (convert p r v)
unfolding convert is_null as_fixed bind
convert_sound p r e ok_null = (Null, refl, ok_null)
convert_sound p r e (ok_fixed {p = q} {s = s} {m = m} h) =
    let (a, b, k, l) = digits_facts p r e in
    rw (scale_in q s m h, le-leb p 9 b, le-leb r 4 k)
    (_, refl, fixed_fits p r (quot_z (m *ℤ pos (10 ^ (r - s))) (pos (10 ^ (s - r)))) e)

-- a value of a type is of an equal one
pub same_has : (s r : Ty) {u : Value} → same_type s r ≡ true → HasTy s u → HasTy r u
same_has s r {u} e h = subst (λ (t : Ty). HasTy t u) (same_type_lem s r e) h

-- a limb whose type isn't IF's is brought to it
pub wider_left : (s t r : Ty) {u : Value} → limb_type s t ≡ done r → in_rule r ≡ true → same_type s r ≡ false → HasTy s u →
    Gives r (convert (digits_of r) (scale_of r) u)
unfolding in_rule digits_of scale_of
wider_left s t r {u} e d f h = go (limb_ty s t r e) d f h
  where
    go : {a b c : Ty} → LimbTy a b c → in_rule c ≡ true → same_type a c ≡ false → HasTy a u → Gives c (convert (digits_of c) (scale_of c) u)
    go (limb_fixed {p = p} {s = x} {q = q} {r = y}) k m n = convert_sound (max p q) (max x y) k n
    go (limb_same {t = b}) k m n = absurd (true≢false (sym (same_refl b) ∙ m))

pub wider_right : (s t r : Ty) {u : Value} → limb_type s t ≡ done r → in_rule r ≡ true → same_type t r ≡ false → HasTy t u →
    Gives r (convert (digits_of r) (scale_of r) u)
unfolding in_rule digits_of scale_of
wider_right s t r {u} e d f h = go (limb_ty s t r e) d f h
  where
    go : {a b c : Ty} → LimbTy a b c → in_rule c ≡ true → same_type b c ≡ false → HasTy b u → Gives c (convert (digits_of c) (scale_of c) u)
    go (limb_fixed {p = p} {s = x} {q = q} {r = y}) k m n = convert_sound (max p q) (max x y) k n
    go (limb_same {t = b}) k m n = absurd (true≢false (sym (same_refl b) ∙ m))

-- ---- where the left operand of and, or decides, it is the result

settled_op : (op : ℕ) (u : Value) → settled op u ≡ true → (5 ≤ op) × (op ≤ 6)
unfolding settled
settled_op op Null e = absurd (false≢true e)
settled_op op (Truth b) e = go (eqb op 5) (eqb op 6) b refl refl e
  where
    go : (x y b : Bool) → eqb op 5 ≡ x → eqb op 6 ≡ y → ((x && not b) || (y && b)) ≡ true → (5 ≤ op) × (op ≤ 6)
    go true y b f g h = let k = eqb-true op 5 f in (omega arith, omega arith)
    go false true b f g h = let k = eqb-true op 6 g in (omega arith, omega arith)
    go false false b f g h = absurd (false≢true h)
settled_op op (Fixed s m) e = absurd (false≢true e)
settled_op op (Time m) e = absurd (false≢true e)
settled_op op (Interval m) e = absurd (false≢true e)
settled_op op (Class c) e = absurd (false≢true e)

pub settled_apply : (op p : ℕ) (u v : Value) → settled op u ≡ true → apply op p u v ≡ done u
unfolding logic_v
settled_apply op p u v e = let (a, b) = settled_op op u e in rw (apply_logic op p u v a b, e)
