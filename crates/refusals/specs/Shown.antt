-- What is printed of a case: its refusal, or 0 0.
-- Assumes nothing.
use Rattle.std.specs.Prelude.{ℕ, List, [], ◌∷◌, Result, Ok, Err}
use Rattle.lines.specs.Shown.{refusal_line}
use Rattle.word.specs.declared.refusal.Refusal.{Refusal}

-- the refusal that was found; 0 0 where there is none
abbrev pub found_line : Result (Unit {0}) Refusal → List ℕ
found_line (Ok x) = 48 ∷ 32 ∷ 48 ∷ 10 ∷ []
found_line (Err r) = refusal_line r
