-- `tree::known::known_at` meets its contract: an accepted value is not refused.
-- Assumes nothing.
use mathlib.Core.Path.{refl}
use Rattle.tree.proofs.Answers.{not_refused, told_of}
use Rattle.tree.proofs.known.known_at.Goals as goal

pub returns-in_default : goal.returns-in_default
returns-in_default c = absurd (not_refused _ _ _ _ _ _ _ _ c.requires _ c.in_default.ensures.value refl)

pub returns : goal.returns
returns c = told_of _ _ _ _ _ _ _ _ c.requires _ c.in-Ok.ensures.value refl
