-- What is printed of an answer: a line for each row.
-- Assumes nothing.
use Rattle.std.specs.Prelude.{ℕ, zero, suc, ◌*◌, ◌/◌, List, [], ◌∷◌, ◌++◌, decimal, length, get_or, take, drop}
use Rattle.std.specs.Fmt.{signed_decimal}
use Rattle.word.specs.Bytes.{u16_at, u32_at, signed32}

-- a cell of eight bytes: its mark, its class and its value, a space between them
abbrev pub cell_text : List ℕ → List ℕ
cell_text cell = decimal (get_or cell 0 0) ++ 32 ∷ decimal (u16_at cell 2) ++ 32 ∷ signed_decimal (signed32 (u32_at cell 4))

-- what stands before cell n of a row: two spaces, but nothing before cell 0
abbrev pub gap : ℕ → List ℕ
gap zero = []
gap (suc n) = 32 ∷ 32 ∷ []

-- the first n cells of a row
unfoldable pub cell_texts : List ℕ → ℕ → List ℕ
cell_texts cells zero = []
cell_texts cells (suc n) = cell_texts cells n ++ gap n ++ cell_text (take 8 (drop (n * 8) cells))

-- a row: all its cells
abbrev pub row_line : List ℕ → List ℕ
row_line cells = cell_texts cells (length cells / 8) ++ 10 ∷ []

-- the first n rows, of so many bytes each
unfoldable pub row_lines : ℕ → List ℕ → ℕ → List ℕ
row_lines size cells zero = []
row_lines size cells (suc n) = row_lines size cells n ++ row_line (take size (drop (n * size) cells))
