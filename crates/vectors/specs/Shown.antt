-- What is printed of a case: what its job gave back, and two digests.
-- Assumes nothing.
use Rattle.std.specs.Prelude.{ℕ, ◌-◌, ◌^◌, false, List, [], ◌∷◌, ◌++◌, Result, Ok, Err, decimal}
use Rattle.std.specs.Fmt.{digits, padded_integral, format_spec}
use Rattle.word.specs.Refusal.{number_of}
use Rattle.word.specs.declared.refusal.Refusal.{Refusal}

-- number, place and count, a space between them: 0 0 and the count, or a refusal's number and place, and 0
abbrev pub given_text : Result ℕ Refusal → List ℕ
given_text (Ok count) = decimal 0 ++ 32 ∷ decimal 0 ++ 32 ∷ decimal count
given_text (Err r) = decimal (number_of r.reason) ++ 32 ∷ decimal r.place ++ 32 ∷ decimal 0

-- a digest: 14 hexadecimal digits, zeros before them where it has fewer
abbrev pub digest_text : ℕ → List ℕ
digest_text n = padded_integral (format_spec 32 0 4 14 (2 ^ 64 - 1)) false [] (digits 16 false n)

-- the line of a case
abbrev pub case_line : Result ℕ Refusal → ℕ → ℕ → List ℕ
case_line given tree out = given_text given ++ 32 ∷ digest_text tree ++ 32 ∷ digest_text out ++ 10 ∷ []
