-- How a fill goes on by one byte, and how many bytes came.
-- Assumes nothing.
use Prim.Native.Nat.{ℕ, ◌+◌, ◌%◌, ◌≤◌, ◌<◌}
use mathlib.Core.Path.{◌≡◌, refl, sym, ◌∙◌}
use mathlib.Core.List.{List, ◌++◌}
use native.Mathlib.Omega.{arith}
use native.Mathlib.Numerals.{add-one}
use borrow.Author.Rules.{rules}
use lib.ListN.{length, take, drop, set, length-append}
use lib.Seq.{take-suc-set, take_all, length-take-le}
use Rattle.cases.specs.Digest.{pattern}
use Rattle.lines.specs.Counts.{IsPrefixLen}

-- ---- the fill

pub fill_start : (s : List ℕ) → take 0 s ≡ pattern 0
unfolding pattern
fill_start s = refl

module _ (s : List ℕ) (i : ℕ) (e : take i s ≡ pattern i) where
  pub fill_further : (m : ℕ) → i < length s → m ≡ i % 251 → take (i + 1) (set s i m) ≡ pattern (i + 1)
  unfolding pattern
  fill_further m h f = rw (add-one i, take-suc-set s i m h, e, f)

  pub fill_done : (n : ℕ) → length s ≤ i → i ≤ length s → length s ≡ n → s ≡ pattern n
  fill_done n l h k = let f : i ≡ n = omega arith in sym (take_all i s l) ∙ e ∙ rw f

pub ruleset fills = (fill_start, fill_further, fill_done, rules)

-- ---- what came

pub came : (r : ℕ) (xs : List ℕ) → r ≤ length xs → IsPrefixLen r xs
came r xs h = (h, sym (length-take-le r xs h))

pub part_long : (n : ℕ) (xs : List ℕ) → n ≤ length xs → n ≡ length (take n xs)
part_long n xs h = sym (length-take-le n xs h)

pub front_long : (r n : ℕ) (e xs : List ℕ) → r ≤ length e → r ≤ length (e ++ drop n xs)
front_long r n e xs h = simp length-append (omega arith)
