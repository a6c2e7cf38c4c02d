-- What Translate and Answer allow is one result and one content of each buffer.
-- Assumes nothing.
use Prim.Native.Nat.{ℕ}
use mathlib.Core.Path.{◌≡◌, sym, ◌∙◌}
use mathlib.Core.List.{List}
use Rattle.std.specs.Prelude.{Result}
use Rattle.word.specs.Refusal.{said}
use Rattle.word.specs.declared.refusal.Refusal.{Refusal}
use Rattle.word.proofs.Refusals.{said_same}
use Rattle.filter.specs.Jobs.{Translated, Answered}

module _ (c v : List ℕ) (k q : ℕ) (o : List ℕ) where
  -- TRANSLATE
  pub only_one : (o₁ o₂ : List ℕ) (r₁ r₂ : Result ℕ Refusal) → Translated c v k q o o₁ (said r₁) → Translated c v k q o o₂ (said r₂) → (r₁ ≡ r₂) × (o₁ ≡ o₂)
  only_one o₁ o₂ r₁ r₂ a b = (said_same r₁ r₂ (a.says ∙ sym b.says), a.holds ∙ sym b.holds)

  -- ANSWER
  module _ (s p : List ℕ) where
    pub only_one_answer : (o₁ o₂ p₁ p₂ : List ℕ) (r₁ r₂ : Result ℕ Refusal) → Answered c v k q s o p o₁ p₁ (said r₁) → Answered c v k q s o p o₂ p₂ (said r₂) →
        (r₁ ≡ r₂) × (o₁ ≡ o₂) × (p₁ ≡ p₂)
    only_one_answer o₁ o₂ p₁ p₂ r₁ r₂ a b = (said_same r₁ r₂ (a.says ∙ sym b.says), a.tree ∙ sym b.tree, a.holds ∙ sym b.holds)
