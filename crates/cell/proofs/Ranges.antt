-- The tests that the code makes of numbers: that one is in a range, that two are what is asked.
-- Assumes nothing.
use Prim.Native.Nat.{ℕ, ◌≤◌, ◌<◌}
use mathlib.Core.Path.{◌≡◌}
use mathlib.Core.Bool.{true, false, ◌&&◌, and-false, and-eq-true_iff}
use borrow.Author.Tests.{le-leb, lt-leb, eqb-true}
use lib.Dec.{eqb, leb}

module _ (a b n : ℕ) where
  pub inside : a ≤ n → n ≤ b → (leb a n && leb n b) ≡ true
  inside h k = rw (le-leb a n h, le-leb n b k)

  pub under : n < a → (leb a n && leb n b) ≡ false
  under h = rw (lt-leb a n h)

  pub over : b < n → (leb a n && leb n b) ≡ false
  over h = rw (lt-leb n b h) (and-false (leb a n))

-- two tests that hold together
pub both_are : (i j k l : ℕ) → (eqb i k && eqb j l) ≡ true → (i ≡ k) × (j ≡ l)
both_are i j k l e = let (a, b) = (and-eq-true_iff (eqb i k) (eqb j l)).0 e in (eqb-true i k a, eqb-true j l b)
