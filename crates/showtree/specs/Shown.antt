-- What is printed of a tree: a line for each record.
-- Assumes nothing.
use Rattle.std.specs.Prelude.{ℕ, zero, suc, List, [], ◌∷◌, ◌++◌, decimal}
use Rattle.word.specs.Record.{rec_at}
use Rattle.word.specs.declared.Record.{Record}

-- a record: kind, op, a, b and c, a space between them
abbrev pub record_line : Record → List ℕ
record_line r = decimal r.kind ++ 32 ∷ decimal r.op ++ 32 ∷ decimal r.a ++ 32 ∷ decimal r.b ++ 32 ∷ decimal r.c ++ 10 ∷ []

-- the first n records of a tree
unfoldable pub record_lines : List ℕ → ℕ → List ℕ
record_lines tree zero = []
record_lines tree (suc n) = record_lines tree n ++ record_line (rec_at tree n)
