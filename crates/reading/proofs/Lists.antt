-- Lists and outcomes: what the theorem needs of them, each once.
-- Assumes nothing.
use Prim.Native.Nat.{ℕ, zero, suc, ◌+◌}
use mathlib.Core.Path.{◌≡◌, refl, sym, subst}
use mathlib.Core.Bool.{Bool, true, false, cond}
use mathlib.Core.List.{List, [], ◌∷◌, ◌++◌, map, nil≢cons}
use native.Mathlib.Numerals.{add-one}
use Rattle.cell.specs.Res.{Res, stuck, done, bind, nth, map_res}
use Rattle.store.specs.Rows.{All, All2}
use Rattle.run.specs.Run.{concat_map, product}
use Rattle.reading.specs.Reading.{keep}

abbrev IsDone : {A : Type 0} → Res A → Type 0
IsDone stuck = ⊥
IsDone (done a) = Unit {0}

pub not_stuck : {A : Type 0} {x : A} → ◌≡◌ {A = Res A} stuck (done x) → ⊥
not_stuck e = subst IsDone (sym e) tt

pub done_inj : {A : Type 0} {x y : A} → ◌≡◌ {A = Res A} (done x) (done y) → x ≡ y
done_inj e = cc

-- what a `bind` that is done went through
pub bind_done : {A B : Type 0} (r : Res A) (f : A → Res B) (b : B) → bind r f ≡ done b → (a : A) × (r ≡ done a) × (f a ≡ done b)
unfolding bind
bind_done stuck f b e = absurd (not_stuck e)
bind_done (done a) f b e = (a, refl, e)

-- ---- every element

pub all_imp : {A : Type 0} (P Q : A → Type 0) → ((x : A) → P x → Q x) → (xs : List A) → All P xs → All Q xs
all_imp P Q f [] h = tt
all_imp P Q f (x ∷ xs) h = (f x h.0, all_imp P Q f xs h.1)

pub all_append : {A : Type 0} (P : A → Type 0) (xs ys : List A) → All P xs → All P ys → All P (xs ++ ys)
all_append P [] ys h k = k
all_append P (x ∷ xs) ys h k = (h.0, all_append P xs ys h.1 k)

pub all_cond : {A : Type 0} (P : A → Type 0) (z : Bool) (xs : List A) → All P xs → All P (cond z xs [])
all_cond P true xs h = h
all_cond P false xs h = tt

pub all_map : {A B : Type 0} (P : B → Type 0) (f : A → B) (xs : List A) → All (λ x. P (f x)) xs → All P (map f xs)
all_map P f [] h = tt
all_map P f (x ∷ xs) h = (h.0, all_map P f xs h.1)

pub all_concat_map : {A B : Type 0} (P : A → Type 0) (Q : B → Type 0) (f : A → List B) → ((x : A) → P x → All Q (f x)) →
    (xs : List A) → All P xs → All Q (concat_map f xs)
unfolding concat_map
all_concat_map P Q f g [] h = tt
all_concat_map P Q f g (x ∷ xs) h = all_append Q (f x) (concat_map f xs) (g x h.0) (all_concat_map P Q f g xs h.1)

pub all_keep : {A : Type 0} (P : A → Type 0) (bs : List Bool) (xs : List A) → All P xs → All P (keep bs xs)
unfolding keep
all_keep P [] xs h = tt
all_keep P (b ∷ bs) [] h = tt
all_keep P (true ∷ bs) (x ∷ xs) h = (h.0, all_keep P bs xs h.1)
all_keep P (false ∷ bs) (x ∷ xs) h = all_keep P bs xs h.1

-- ---- two lists of one length

pub all2_and : {A B : Type 0} (R : A → B → Type 0) (P : B → Type 0) (xs : List A) (ys : List B) → All2 R xs ys → All P ys → All2 (λ x y. R x y × P y) xs ys
all2_and R P [] [] h k = tt
all2_and R P [] (y ∷ ys) h k = absurd h
all2_and R P (x ∷ xs) [] h k = absurd h
all2_and R P (x ∷ xs) (y ∷ ys) h k = ((h.0, k.0), all2_and R P xs ys h.1 k.1)

pub all2_imp : {A B : Type 0} (R S : A → B → Type 0) → ((x : A) (y : B) → R x y → S x y) → (xs : List A) (ys : List B) → All2 R xs ys → All2 S xs ys
all2_imp R S f [] [] h = tt
all2_imp R S f [] (y ∷ ys) h = absurd h
all2_imp R S f (x ∷ xs) [] h = absurd h
all2_imp R S f (x ∷ xs) (y ∷ ys) h = (f x y h.0, all2_imp R S f xs ys h.1)

pub all2_append : {A B : Type 0} (R : A → B → Type 0) (xs : List A) (ys : List B) (us : List A) (vs : List B) → All2 R xs ys → All2 R us vs →
    All2 R (xs ++ us) (ys ++ vs)
all2_append R [] [] us vs h k = k
all2_append R [] (y ∷ ys) us vs h k = absurd h
all2_append R (x ∷ xs) [] us vs h k = absurd h
all2_append R (x ∷ xs) (y ∷ ys) us vs h k = (h.0, all2_append R xs ys us vs h.1 k)

pub nth_all2 : {A B : Type 0} (R : A → B → Type 0) (xs : List A) (ys : List B) (i : ℕ) (x : A) → All2 R xs ys → nth xs i ≡ done x →
    (y : B) × (nth ys i ≡ done y) × R x y
unfolding nth
nth_all2 R [] ys i x h e = absurd (not_stuck e)
nth_all2 R (a ∷ xs) [] i x h e = absurd h
nth_all2 R (a ∷ xs) (y ∷ ys) zero x h e = (y, refl, subst (λ z. R z y) (done_inj e) h.0)
nth_all2 R (a ∷ xs) (y ∷ ys) (suc i) x h e = nth_all2 R xs ys i x h.1 e

-- the rows of a product are accepted, each by its table
pub product_all : {A B : Type 0} (R : A → B → Type 0) (ts : List A) (xss : List (List B)) → All2 (λ t xs. All (R t) xs) ts xss →
    All (λ rs. All2 R ts rs) (product xss)
unfolding product
product_all R [] [] h = (tt, tt)
product_all R [] (xs ∷ xss) h = absurd h
product_all R (t ∷ ts) [] h = absurd h
product_all R (t ∷ ts) (xs ∷ xss) h =
    all_concat_map (R t) (All2 R (t ∷ ts)) (λ x. map (λ ys. x ∷ ys) (product xss))
    (λ x r. all_map (All2 R (t ∷ ts)) (λ ys. x ∷ ys) (product xss)
    (all_imp (All2 R ts) (λ ys. R t x × All2 R ts ys) (λ ys a. (r, a)) (product xss) (product_all R ts xss h.1)))
    xs h.0

-- ---- a run of each element that is never stuck

pub map_res_ok : {A B : Type 0} (f : A → Res B) (g : A → B) (xs : List A) → All (λ x. f x ≡ done (g x)) xs → map_res f xs ≡ done (map g xs)
unfolding map_res bind
map_res_ok f g [] h = refl
map_res_ok f g (x ∷ xs) h = rw (h.0, map_res_ok f g xs h.1)

-- ---- the elements from number n on

abbrev pub from : {A : Type 0} → ℕ → List A → List A
from zero xs = xs
from (suc n) [] = []
from (suc n) (x ∷ xs) = from n xs

pub from_cons : {A : Type 0} (n : ℕ) (xs : List A) (y : A) (ys : List A) → from n xs ≡ y ∷ ys → (nth xs n ≡ done y) × (from (suc n) xs ≡ ys)
unfolding nth
from_cons zero [] y ys e = absurd (nil≢cons e)
from_cons zero (x ∷ xs) y ys e = (cc, cc)
from_cons (suc n) [] y ys e = absurd (nil≢cons e)
from_cons (suc n) (x ∷ xs) y ys e = from_cons n xs y ys e

pub from_next : {A : Type 0} (n : ℕ) (xs : List A) (y : A) (ys : List A) → from n xs ≡ y ∷ ys → from (n + 1) xs ≡ ys
from_next n xs y ys e = rw (add-one n) (from_cons n xs y ys e).1
