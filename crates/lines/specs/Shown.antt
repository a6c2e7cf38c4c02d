-- What the programs print of a refusal.
-- Assumes nothing.
use Rattle.std.specs.Prelude.{List, [], ◌∷◌, ◌++◌, ℕ, decimal}
use Rattle.word.specs.Refusal.{number_of}
use Rattle.word.specs.declared.refusal.Refusal.{Refusal}

-- a line: the refusal's number, a space, its place
abbrev pub refusal_line : Refusal → List ℕ
refusal_line r = decimal (number_of r.reason) ++ 32 ∷ decimal r.place ++ 10 ∷ []
