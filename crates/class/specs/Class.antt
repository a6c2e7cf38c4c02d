-- Classes. A class is any 16-bit word: level = word div 4096, twelve marks = the low twelve bits.
-- Assumes nothing.
use Rattle.std.specs.Prelude.{ℕ, zero, suc, ◌+◌, ◌*◌, ◌/◌, ◌%◌, ◌^◌, ◌≤◌, ◌<◌, max, Bool, true, ◌&&◌, List, [], ◌∷◌, leb}

-- the level: the word divided by 4096
unfoldable pub level : ℕ → ℕ
level w = w / 4096

-- mark i, for i from 0 to 11: 1 if the word has it, else 0
unfoldable pub mark : ℕ → ℕ → ℕ
mark i w = w / 2 ^ i % 2

-- A dominates B if A's level is at least B's and A has every mark of B
pub record Dominates (a b : ℕ) : Type 0 where
  pub high : level b ≤ level a
  pub marked : (i : ℕ) → i < 12 → mark i b ≤ mark i a

-- the test f holds of every number below n
abbrev pub every : ℕ → (ℕ → Bool) → Bool
every zero f = true
every (suc n) f = every n f && f n

-- the number whose binary digits are f, lowest first, n of them
abbrev pub total : ℕ → (ℕ → ℕ) → ℕ
total zero f = 0
total (suc n) f = f n * 2 ^ n + total n f

-- the same as a test that computes
unfoldable pub dominatesb : ℕ → ℕ → Bool
dominatesb a b = leb (level b) (level a) && every 12 (λ i. leb (mark i b) (mark i a))

-- the higher level, and the marks of either
unfoldable pub lub_of : ℕ → ℕ → ℕ
lub_of a b = max (level a) (level b) * 4096 + total 12 (λ i. max (mark i a) (mark i b))

-- the lub of a list; of none, 0
abbrev pub lub_all : List ℕ → ℕ
lub_all [] = 0
lub_all (x ∷ xs) = lub_of x (lub_all xs)

-- the same from the left, as a loop makes it
abbrev pub lub_from : ℕ → List ℕ → ℕ
lub_from k [] = k
lub_from k (x ∷ xs) = lub_from (lub_of k x) xs
