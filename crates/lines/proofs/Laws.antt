-- Laws of the text: where a line ends and starts, and the number that digits say.
-- Assumes nothing.
use Rattle.std.proofs.Common.{ℕ, zero, suc, ◌+◌, ◌-◌, ◌*◌, ◌≤◌, ◌<◌, ◌≡◌, min, Bool, true, false, cond, ◌&&◌, Option, Some, None, List, [], ◌∷◌, length, get_or, take, drop, eqb, ltb, leb, refl, sym, ap, ◌∙◌, subst, arith, rules}
use Rattle.std.proofs.lemmas.Bool.{ltb-false, lt-ltb, le-ltb}
use Rattle.std.proofs.lemmas.List.{take_all}
use Rattle.std.proofs.lemmas.List.Sums.{prefix_len-le-length}
use Rattle.std.specs.List.{list_all, position_or_len}
use Rattle.std.specs.Option.{MatchOption}
use borrow.Author.Tests.{ltb-true, leb-true}
use lib.ListN.{length-drop, drop_of_length-le}
use lib.Seq.{drop-cons}
use native.Mathlib.Numerals.{add-one}
use Rattle.lines.specs.Text.{line_end, line_start, is_digit, value_from, number_by, number_of}

-- ---- the end of a line

-- the position of the first line end in what follows a place says where the line ends
pub end_found : (text : List ℕ) (at : ℕ) (r : Option ℕ) → at ≤ length text → (s : List ℕ) → s ≡ take (length text - at) (drop at text) → r ≡ cond (ltb (position_or_len (λ b. eqb b 10) s) (length s)) (Some (position_or_len (λ b. eqb b 10) s)) None → MatchOption r (length text ≡ line_end text at) (λ n. (at + n ≡ line_end text at) × (at + n < length text))
unfolding line_end
end_found text at r h s e w =
    let all : s ≡ drop at text = e ∙ take_all (length text - at) (drop at text) (omega (arith, length-drop at text)) in
    let long : length s ≡ length text - at = ap length all ∙ length-drop at text in
    let few : position_or_len (λ b. eqb b 10) s ≤ length s = prefix_len-le-length _ s in
    subst (λ z. MatchOption z (length text ≡ at + position_or_len (λ b. eqb b 10) (drop at text)) (λ n. (at + n ≡ at + position_or_len (λ b. eqb b 10) (drop at text)) × (at + n < length text))) (sym w)
    (subst (λ z. MatchOption (cond (ltb (position_or_len (λ b. eqb b 10) s) (length s)) (Some (position_or_len (λ b. eqb b 10) s)) None) (length text ≡ at + position_or_len (λ b. eqb b 10) z) (λ n. (at + n ≡ at + position_or_len (λ b. eqb b 10) z) × (at + n < length text))) all
    (go (position_or_len (λ b. eqb b 10) s) few (ltb (position_or_len (λ b. eqb b 10) s) (length s)) refl long))
  where
    go : (p : ℕ) → p ≤ length s → (t : Bool) → ltb p (length s) ≡ t → length s ≡ length text - at → MatchOption (cond t (Some p) None) (length text ≡ at + p) (λ n. (at + n ≡ at + p) × (at + n < length text))
    go p few true t long = let l : p < length s = ltb-true p (length s) t in (refl, omega arith)
    go p few false t long = let l : length s ≤ p = ltb-false p (length s) t in omega arith

-- ---- the start of a line

pub start_further : (text : List ℕ) (j i at to : ℕ) → i < j → to ≡ min (line_end text at + 1) (length text) → line_start text (j - (i + 1)) to ≡ line_start text (j - i) at
unfolding line_start
start_further text j i at to h e =
    let left : j - i ≡ suc (j - (i + 1)) = omega (arith, h) in
    rw (left, e)

pub start_done : (text : List ℕ) (j i at : ℕ) → j ≤ i → line_start text (j - i) at ≡ at
unfolding line_start
start_done text j i at h =
    let left : j - i ≡ zero = omega (arith, h) in
    rw left

-- ---- numbers

-- a digit is at least 48
digit_low : (b : ℕ) → is_digit b ≡ true → 48 ≤ b
digit_low b d = go (leb 48 b) refl d
  where
    go : (x : Bool) → leb 48 b ≡ x → x && leb b 57 ≡ true → 48 ≤ b
    go true e f = leb-true 48 b e
    go false e f = let z : ◌≡◌ {A = ℕ} 0 1 = cc in absurd (omega arith)

-- digits make a value no smaller
grows : (s : List ℕ) (v : ℕ) → list_all is_digit s ≡ true → v ≤ value_from v s
unfolding value_from
grows [] v h = omega arith
grows (b ∷ s) v h = go (leb 48 b) refl (leb b 57) refl h (λ k. grows s (10 * v + b - 48) k)
  where
    go : (x : Bool) → leb 48 b ≡ x → (y : Bool) → leb b 57 ≡ y → (x && y) && list_all is_digit s ≡ true → (list_all is_digit s ≡ true → 10 * v + b - 48 ≤ value_from (10 * v + b - 48) s) → v ≤ value_from (10 * v + b - 48) s
    go true e true f k l = let m = leb-true 48 b e in omega (arith, l k)
    go true e false f k l = let z : ◌≡◌ {A = ℕ} 0 1 = cc in absurd (omega arith)
    go false e y f k l = let z : ◌≡◌ {A = ℕ} 0 1 = cc in absurd (omega arith)

too_large : (s : List ℕ) (v : ℕ) → 65535 < v → None ≡ number_by (list_all is_digit s) (value_from v s)
too_large s v h = go (list_all is_digit s) refl
  where
    go : (x : Bool) → list_all is_digit s ≡ x → None ≡ number_by x (value_from v s)
    go true e = let l = grows s v e in rw (le-ltb (value_from v s) 65536 (omega arith))
    go false e = refl

pub number_empty : (s : List ℕ) → length s ≡ 0 → None ≡ number_of s
unfolding number_of
number_empty s h = rw h

pub number_start : (s : List ℕ) → (length s ≡ 0 → ⊥) → number_by (list_all is_digit (drop 0 s)) (value_from 0 (drop 0 s)) ≡ number_of s
unfolding number_of
number_start s h = rw (lt-ltb 0 (length s) (omega arith))

module _ (s : List ℕ) (i v : ℕ) (n : Option ℕ) (w : number_by (list_all is_digit (drop i s)) (value_from v (drop i s)) ≡ n) where
  module _ (h : i < length s) (t : Bool) (d : t ≡ is_digit (get_or s i 0)) where
    pub number_other : t ≡ false → None ≡ n
    unfolding value_from
    number_other f = let g : is_digit (get_or s i 0) ≡ false = cc in (rw (drop-cons s i 0 h, g)) ∙ w

    pub number_further : (u : ℕ) → t ≡ true → u ≡ get_or s i 0 - 48 → number_by (list_all is_digit (drop (i + 1) s)) (value_from (10 * v + u) (drop (i + 1) s)) ≡ n
    unfolding value_from
    number_further u f e =
        let g : is_digit (get_or s i 0) ≡ true = cc in
        let low : 48 ≤ get_or s i 0 = digit_low _ g in
        let same : 10 * v + u ≡ 10 * v + get_or s i 0 - 48 = omega arith in
        (rw (same, add-one i, drop-cons s i 0 h, g)) ∙ w

    pub number_large : (u : ℕ) → t ≡ true → u ≡ get_or s i 0 - 48 → 65535 < 10 * v + u → None ≡ n
    number_large u f e g = too_large (drop (i + 1) s) (10 * v + u) g ∙ number_further u f e

  pub number_done : length s ≤ i → v < 65536 → Some v ≡ n
  unfolding value_from
  number_done h l = (rw (drop_of_length-le s h, lt-ltb v 65536 l)) ∙ w

pub ruleset numbers = (number_empty, number_start, number_other, number_further, number_large, number_done, rules)
