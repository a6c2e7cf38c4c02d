-- The outcome of a run: stuck, or done with a result.
-- Assumes nothing.
use Rattle.std.specs.Prelude.{ℕ, zero, suc, List, [], ◌∷◌, Option, Some, None}

pub data Res (A : Type 0) : Type 0 where
  stuck : Res A
  done : A → Res A

unfoldable pub bind : {A B : Type 0} → Res A → (A → Res B) → Res B
bind stuck f = stuck
bind (done a) f = f a

-- the result, or something else where it is stuck
unfoldable pub or_else : {A : Type 0} → A → Res A → A
or_else d stuck = d
or_else d (done a) = a

-- the code's answer: nothing where it is stuck
unfoldable pub option_of : {A : Type 0} → Res A → Option A
option_of stuck = None
option_of (done a) = Some a

-- element n of a list
unfoldable pub nth : {A : Type 0} → List A → ℕ → Res A
nth [] n = stuck
nth (x ∷ xs) zero = done x
nth (x ∷ xs) (suc n) = nth xs n

-- every element's result, in order; stuck if one is
unfoldable pub map_res : {A B : Type 0} → (A → Res B) → List A → Res (List B)
map_res f [] = done []
map_res f (x ∷ xs) = bind (f x) (λ y. bind (map_res f xs) (λ ys. done (y ∷ ys)))
