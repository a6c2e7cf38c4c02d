-- What is known of a class before a row is read: it is fixed, or it has a bound that dominates it. Joins and choices of such.
-- Assumes nothing.
use Rattle.std.specs.Prelude.{ℕ, ◌≡◌, Bool, false, cond, List, [], ◌∷◌, eqb}
use Rattle.class.specs.Class.{Dominates, dominatesb, lub_of}
use Rattle.class.specs.declared.Info.{Info}
use Rattle.class.specs.declared.Info.TheVariants.{Fixed, Bound}

-- op 0 says that b is fixed, op 1 that b is the bound
unfoldable pub info_by : ℕ → ℕ → Info
info_by op b = cond (eqb op 0) (Fixed b) (Bound b)

-- the fixed class, or the bound
unfoldable pub bound_of : Info → ℕ
bound_of (Fixed k) = k
bound_of (Bound b) = b

-- a class keeps what is known of it: a fixed class equals it, another is dominated by the bound
abbrev pub InfoOk : Info → ℕ → Type 0
InfoOk (Fixed k) c = c ≡ k
InfoOk (Bound b) c = Dominates b c

-- the same as a test
unfoldable pub info_test : Info → ℕ → Bool
info_test (Fixed k) c = eqb c k
info_test (Bound b) c = dominatesb b c

-- joining: fixed with fixed is fixed, all else has the lub of both as its bound
unfoldable pub join_i : Info → Info → Info
join_i (Fixed a) (Fixed b) = Fixed (lub_of a b)
join_i (Fixed a) (Bound b) = Bound (lub_of a b)
join_i (Bound a) (Fixed b) = Bound (lub_of a b)
join_i (Bound a) (Bound b) = Bound (lub_of a b)

-- several from the left
unfoldable pub joins_i : Info → List Info → Info
joins_i i [] = i
joins_i i (j ∷ js) = joins_i (join_i i j) js

-- both fixed, and equal
unfoldable pub same_i : Info → Info → Bool
same_i (Fixed a) (Fixed b) = eqb a b
same_i (Fixed a) (Bound b) = false
same_i (Bound a) (Fixed b) = false
same_i (Bound a) (Bound b) = false

-- a choice of two: fixed if both are fixed and equal, else their lub is the bound
unfoldable pub choice_i : Info → Info → Info
choice_i i j = cond (same_i i j) i (Bound (lub_of (bound_of i) (bound_of j)))
