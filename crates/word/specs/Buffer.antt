-- A run of stores into a buffer, and what a writer says: these bytes stand from this place on, and nothing else is touched.
-- Assumes nothing.
use Rattle.std.specs.Prelude.{◌≡◌, List, [], ◌∷◌, ℕ, suc, ◌+◌, ◌≤◌, length, set}

-- o with the bytes at the places i, i + 1, ..; a store past the end changes nothing
unfoldable pub put : List ℕ → ℕ → List ℕ → List ℕ
put o i [] = o
put o i (x ∷ xs) = put (set o i x) (suc i) xs

-- the buffer o is now o': the bytes xs stand in it from `at` on, and nothing else is touched; r is the place after them
pub record Wrote (o : List ℕ) (at : ℕ) (xs : List ℕ) (o' : List ℕ) (r : ℕ) : Type 0 where
  pub now_is : o' ≡ put o at xs
  pub next_is : r ≡ at + length xs

-- the buffer o has room for the bytes xs from `at` on
pub record Room (o : List ℕ) (at : ℕ) (xs : List ℕ) : Type 0 where
  pub within : at + length xs ≤ length o
