-- The laws of classes: `Dominates` is a partial order with 0 at the bottom, and `lub_of` its least upper bound.
-- They hold of every number, not only of those below 65,536; only `lub_fits` speaks of the bound.
-- Assumes nothing.
use Prim.Native.Nat.{ℕ, zero, suc, ◌+◌, ◌-◌, ◌*◌, ◌/◌, ◌%◌, ◌^◌, ◌≤◌, ◌<◌, max}
use mathlib.Core.Path.{◌≡◌, refl, sym, ap, ap₂, ◌∙◌, subst}
use mathlib.Core.Bool.{Bool, true, false, ◌&&◌}
use mathlib.Core.List.{List, [], ◌∷◌, Memᴰ}
use mathlib.Core.Logic.{⊎_elim, ◌↔◌}
use native.Mathlib.Nat.{mod-one, le_of_suc-le-suc, eq-or-lt_of_le, not-suc-le-zero, zero-div}
use native.Mathlib.Numerals.{one-add}
use native.Mathlib.Omega.{arith}
use lib.Dec.{T, leb, eqb}
use lib.Pow.{field, mod-mod-pow, mod-pow-add}
use lib.Bits.{bit_or, or_shr, or_step}
use borrow.Author.Tests.{leb-true, le-leb, lt-leb, eqb-true, eq-eqb}
use Rattle.class.specs.Class.{level, mark, Dominates, every, total, dominatesb, lub_of, lub_all, lub_from}

-- ---- marks

pub mark_le : (i w : ℕ) → mark i w ≤ 1
unfolding mark
mark_le i w = omega arith

-- a mark of a | b is the larger of the two
pub mark_or : (i a b : ℕ) → mark i (bit_or a b) ≡ max (mark i a) (mark i b)
unfolding mark
mark_or i a b = rw (or_shr a b i) (rw (or_step (a / 2 ^ i) (b / 2 ^ i)) (omega arith))

-- a mark below 12 is one of the low twelve bits
mark_low : (w k i : ℕ) → mark i (w % 2 ^ (k + 1 + i)) ≡ mark i w
unfolding mark
mark_low w k i = ap (λ (x : ℕ). x % 2) (field w (k + 1) i) ∙ mod-mod-pow (w / 2 ^ i) k 1

mark_12 : (i w : ℕ) → i < 12 → mark i (w % 4096) ≡ mark i w
mark_12 i w h =
    let e : 11 - i + 1 + i ≡ 12 = omega arith in
    subst (λ (n : ℕ). mark i (w % 2 ^ n) ≡ mark i w) e (mark_low w (11 - i) i)

pub same_marks : (i a b : ℕ) → i < 12 → a % 4096 ≡ b % 4096 → mark i a ≡ mark i b
same_marks i a b h e = sym (mark_12 i a h) ∙ ap (mark i) e ∙ mark_12 i b h

-- the low n bits are the sum of the marks
expand : (n w : ℕ) → w % 2 ^ n ≡ total n (λ i. mark i w)
unfolding mark
expand zero w = mod-one w
expand (suc n) w = rw (← one-add n) (mod-pow-add w 1 n ∙ ap (λ (x : ℕ). w / 2 ^ n % 2 * 2 ^ n + x) (expand n w))

total_same : (n : ℕ) (f g : ℕ → ℕ) → ((i : ℕ) → i < n → f i ≡ g i) → total n f ≡ total n g
total_same zero f g h = refl
total_same (suc n) f g h =
    ap₂ (λ (x y : ℕ). x * 2 ^ n + y) (h n (omega arith)) (total_same n f g (λ i k. h i (omega arith)))

low : (a b : ℕ) → ((i : ℕ) → i < 12 → mark i a ≡ mark i b) → a % 4096 ≡ b % 4096
low a b h = expand 12 a ∙ total_same 12 _ _ h ∙ sym (expand 12 b)

-- two classes with the same level and the same marks are the same
pub same : (a b : ℕ) → level a ≡ level b → ((i : ℕ) → i < 12 → mark i a ≡ mark i b) → a ≡ b
unfolding level
same a b e h = let l : a % 4096 ≡ b % 4096 = low a b h in omega arith

-- ---- the lub, by | and by its level and marks

pub lub_or : (a b : ℕ) → lub_of a b ≡ max (level a) (level b) * 4096 + bit_or a b % 4096
unfolding lub_of
lub_or a b =
    ap (λ (x : ℕ). max (level a) (level b) * 4096 + x)
    (sym (expand 12 (bit_or a b) ∙ total_same 12 _ _ (λ i h. mark_or i a b)))

pub level_lub : (a b : ℕ) → level (lub_of a b) ≡ max (level a) (level b)
unfolding level
level_lub a b = rw (lub_or a b) (omega arith)

pub mark_lub : (i a b : ℕ) → i < 12 → mark i (lub_of a b) ≡ max (mark i a) (mark i b)
mark_lub i a b h =
    let e : lub_of a b % 4096 ≡ bit_or a b % 4096 = rw (lub_or a b) (omega arith) in
    same_marks i (lub_of a b) (bit_or a b) h e ∙ mark_or i a b

pub lub_fits : (a b : ℕ) → a < 65536 → b < 65536 → lub_of a b < 65536
unfolding level
lub_fits a b ha hb = rw (lub_or a b) (omega arith)

-- ---- a partial order

pub dom_refl : (a : ℕ) → Dominates a a
dom_refl a = record { high = omega arith; marked = λ i h. omega arith }

pub dom_trans : (a b c : ℕ) → Dominates a b → Dominates b c → Dominates a c
dom_trans a b c p q =
    record { high = omega arith; marked = λ i h. omega (arith, p.marked i h, q.marked i h) }

pub dom_antisym : (a b : ℕ) → Dominates a b → Dominates b a → a ≡ b
dom_antisym a b p q = same a b (omega arith) (λ i h. omega (arith, p.marked i h, q.marked i h))

pub dom_zero : (a : ℕ) → Dominates a 0
unfolding level mark
dom_zero a = record { high = omega arith; marked = λ i h. rw (zero-div (2 ^ i)) (omega arith) }

-- ---- the least upper bound

pub lub_left : (a b : ℕ) → Dominates (lub_of a b) a
lub_left a b = record { high = omega (arith, level_lub a b); marked = λ i h. omega (arith, mark_lub i a b h) }

pub lub_right : (a b : ℕ) → Dominates (lub_of a b) b
lub_right a b = record { high = omega (arith, level_lub a b); marked = λ i h. omega (arith, mark_lub i a b h) }

pub lub_least : (a b c : ℕ) → Dominates c a → Dominates c b → Dominates c (lub_of a b)
lub_least a b c p q =
    record { high = omega (arith, level_lub a b); marked = λ i h. omega (arith, mark_lub i a b h, p.marked i h, q.marked i h) }

pub lub_comm : (a b : ℕ) → lub_of a b ≡ lub_of b a
lub_comm a b = dom_antisym _ _ (lub_least b a _ (lub_right a b) (lub_left a b)) (lub_least a b _ (lub_right b a) (lub_left b a))

pub lub_idem : (a : ℕ) → lub_of a a ≡ a
lub_idem a = dom_antisym _ _ (lub_left a a) (lub_least a a a (dom_refl a) (dom_refl a))

pub lub_zero : (a : ℕ) → lub_of 0 a ≡ a
lub_zero a = dom_antisym _ _ (lub_right 0 a) (lub_least 0 a a (dom_zero a) (dom_refl a))

pub lub_assoc : (a b c : ℕ) → lub_of (lub_of a b) c ≡ lub_of a (lub_of b c)
lub_assoc a b c =
    same _ _
    (omega (arith, level_lub (lub_of a b) c, level_lub a b, level_lub a (lub_of b c), level_lub b c))
    (λ i h. omega (arith, mark_lub i (lub_of a b) c h, mark_lub i a b h, mark_lub i a (lub_of b c) h, mark_lub i b c h))

-- what dominates the lub is what dominates both
pub lub_iff : (a b c : ℕ) → Dominates c (lub_of a b) ↔ (Dominates c a × Dominates c b)
lub_iff a b c = (
  (λ p. (dom_trans c (lub_of a b) a p (lub_left a b), dom_trans c (lub_of a b) b p (lub_right a b))),
  (λ p. lub_least a b c p.0 p.1),
)

-- ---- the lub of a list

pub all_bound : (x : ℕ) (xs : List ℕ) → Memᴰ x xs → Dominates (lub_all xs) x
all_bound x [] x'' = elim x'' [ ]
all_bound x (y ∷ xs) (Memᴰ.head e) = rw e (lub_left y (lub_all xs))
all_bound x (y ∷ xs) (Memᴰ.tail m) =
    dom_trans _ (lub_all xs) x (lub_right y (lub_all xs)) (all_bound x xs m)

pub all_least : (c : ℕ) (xs : List ℕ) → ((x : ℕ) → Memᴰ x xs → Dominates c x) → Dominates c (lub_all xs)
all_least c [] h = dom_zero c
all_least c (x ∷ xs) h =
    lub_least x (lub_all xs) c (h x (Memᴰ.head refl)) (all_least c xs (λ y m. h y (Memᴰ.tail m)))

pub from_all : (k : ℕ) (xs : List ℕ) → lub_from k xs ≡ lub_of k (lub_all xs)
from_all k [] = sym (lub_comm k 0 ∙ lub_zero k)
from_all k (x ∷ xs) = from_all (lub_of k x) xs ∙ lub_assoc k x (lub_all xs)

-- ---- the test

bool_same : (x y : Bool) → (x ≡ true → y ≡ true) → (y ≡ true → x ≡ true) → x ≡ y
bool_same true true f g = refl
bool_same true false f g = sym (f refl)
bool_same false true f g = g refl
bool_same false false f g = refl

and_left : (x y : Bool) → x && y ≡ true → x ≡ true
and_left true y e = refl
and_left false y e = e

and_right : (x y : Bool) → x && y ≡ true → y ≡ true
and_right true y e = e
and_right false y e = absurd (subst (λ (b : Bool). T b) (sym e) tt)

and_both : (x y : Bool) → x ≡ true → y ≡ true → x && y ≡ true
and_both x y e f = rw e (rw f)

every_at : (n : ℕ) (f : ℕ → Bool) → every n f ≡ true → (i : ℕ) → i < n → f i ≡ true
every_at zero f e i h = absurd (not-suc-le-zero h)
every_at (suc n) f e i h =
    ⊎_elim (λ q. subst (λ (k : ℕ). f k ≡ true) (sym q) (and_right (every n f) (f n) e))
    (λ l. every_at n f (and_left (every n f) (f n) e) i l)
    (eq-or-lt_of_le (le_of_suc-le-suc h))

every_of : (n : ℕ) (f : ℕ → Bool) → ((i : ℕ) → i < n → f i ≡ true) → every n f ≡ true
every_of zero f h = refl
every_of (suc n) f h = and_both (every n f) (f n) (every_of n f (λ i l. h i (omega arith))) (h n (omega arith))

pub dom_of : (a b : ℕ) → dominatesb a b ≡ true → Dominates a b
unfolding dominatesb
dom_of a b e =
    record {
      high = leb-true _ _ (and_left _ _ e);
      marked = λ i h. leb-true _ _ (every_at 12 (λ k. leb (mark k b) (mark k a)) (and_right (leb (level b) (level a)) _ e) i h);
    }

pub dom_yes : (a b : ℕ) → Dominates a b → dominatesb a b ≡ true
unfolding dominatesb
dom_yes a b p =
    and_both _ _ (le-leb _ _ p.high) (every_of 12 (λ k. leb (mark k b) (mark k a)) (λ i h. le-leb _ _ (p.marked i h)))

-- what the code tests: the level, and the marks by |
pub test_high : (a b : ℕ) → level b ≤ level a → eqb (bit_or a b % 4096) (a % 4096) ≡ dominatesb a b
test_high a b h =
    bool_same _ _
    (λ e. dom_yes a b (record { high = h; marked = λ i l. omega (arith, mark_or i a b, same_marks i (bit_or a b) a l (eqb-true _ _ e)) }))
    (λ e. eq-eqb _ _ (low (bit_or a b) a (λ i l. omega (arith, mark_or i a b, (dom_of a b e).marked i l))))

pub test_low : (a b : ℕ) → level a < level b → false ≡ dominatesb a b
unfolding dominatesb
test_low a b h = rw (lt-leb (level b) (level a) h)

-- the tests' laws, as equations of Bools, for a definition that computes with the test
pub testb_refl : (a : ℕ) → dominatesb a a ≡ true
testb_refl a = dom_yes a a (dom_refl a)

pub testb_zero : (a : ℕ) → dominatesb a 0 ≡ true
testb_zero a = dom_yes a 0 (dom_zero a)

pub testb_trans : (a b c : ℕ) → dominatesb a b ≡ true → dominatesb b c ≡ true → dominatesb a c ≡ true
testb_trans a b c p q = dom_yes a c (dom_trans a b c (dom_of a b p) (dom_of b c q))

pub testb_lub : (c a b : ℕ) → dominatesb c (lub_of a b) ≡ dominatesb c a && dominatesb c b
testb_lub c a b =
    bool_same _ _
    (λ e. let p = (lub_iff a b c).0 (dom_of c (lub_of a b) e) in and_both _ _ (dom_yes c a p.0) (dom_yes c b p.1))
    (λ e. dom_yes c (lub_of a b) (lub_least a b c (dom_of c a (and_left _ _ e)) (dom_of c b (and_right (dominatesb c a) _ e))))
