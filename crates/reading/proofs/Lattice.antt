-- The lub of a list of classes: of two lists, of a list of lists, and as the least class that dominates each.
-- Assumes nothing.
use Prim.Native.Nat.{ℕ}
use mathlib.Core.Path.{◌≡◌, refl, sym, ◌∙◌, ap}
use mathlib.Core.Bool.{Bool, true, false, cond, ◌&&◌}
use mathlib.Core.List.{List, [], ◌∷◌, ◌++◌, map}
use Rattle.class.specs.Class.{Dominates, dominatesb, lub_of, lub_all}
use Rattle.class.proofs.Laws.{dom_refl, dom_trans, dom_zero, lub_left, lub_right, lub_least, lub_comm, lub_zero, lub_assoc, testb_zero, testb_lub}
use Rattle.store.specs.Rows.{All}
use Rattle.run.specs.Run.{concat_map}
use Rattle.reading.specs.Reading.{sees}

pub zero_lub : (a : ℕ) → lub_of a 0 ≡ a
zero_lub a = lub_comm a 0 ∙ lub_zero a

pub lub_append : (xs ys : List ℕ) → lub_all (xs ++ ys) ≡ lub_of (lub_all xs) (lub_all ys)
lub_append [] ys = sym (lub_zero (lub_all ys))
lub_append (x ∷ xs) ys = ap (lub_of x) (lub_append xs ys) ∙ sym (lub_assoc x (lub_all xs) (lub_all ys))

pub lub_concat : {A : Type 0} (f : A → List ℕ) (xs : List A) → lub_all (map (λ x. lub_all (f x)) xs) ≡ lub_all (concat_map f xs)
unfolding concat_map
lub_concat f [] = refl
lub_concat f (x ∷ xs) = ap (lub_of (lub_all (f x))) (lub_concat f xs) ∙ sym (lub_append (f x) (concat_map f xs))

pub lub_cond : (z : Bool) (xs ys : List ℕ) → lub_all (cond z xs ys) ≡ cond z (lub_all xs) (lub_all ys)
lub_cond true xs ys = refl
lub_cond false xs ys = refl

-- whatever dominates each dominates the lub
pub lub_below : (d : ℕ) (xs : List ℕ) → All (Dominates d) xs → Dominates d (lub_all xs)
lub_below d [] h = dom_zero d
lub_below d (x ∷ xs) h = lub_least x (lub_all xs) d h.0 (lub_below d xs h.1)

below_each : (d : ℕ) (xs : List ℕ) → Dominates d (lub_all xs) → All (Dominates d) xs
below_each d [] h = tt
below_each d (x ∷ xs) h = (
  dom_trans d (lub_of x (lub_all xs)) x h (lub_left x (lub_all xs)),
  below_each d xs (dom_trans d (lub_of x (lub_all xs)) (lub_all xs) h (lub_right x (lub_all xs))),
)

-- the lub dominates each
pub lub_above : (xs : List ℕ) → All (Dominates (lub_all xs)) xs
lub_above xs = below_each (lub_all xs) xs (dom_refl (lub_all xs))

-- to see all of a list is to dominate its lub
pub sees_lub : (q : ℕ) (xs : List ℕ) → dominatesb q (lub_all xs) ≡ sees q xs
unfolding sees
sees_lub q [] = testb_zero q
sees_lub q (x ∷ xs) = testb_lub q x (lub_all xs) ∙ ap (λ b. dominatesb q x && b) (sees_lub q xs)
