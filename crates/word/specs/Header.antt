-- The five files open with eight bytes: a three-letter mark, a zero byte, a 16-bit version (1), a 16-bit count.
-- Assumes nothing.
use Rattle.std.specs.Prelude.{ℕ, Bool, true, false, ◌&&◌, List, [], ◌∷◌, ◌++◌, eqb, leb, length}
use Rattle.word.specs.Bytes.{u16_at, le16}

-- the marks, each with its zero byte: DRQ view, DRC catalogue, DRT tree, DRS store, DRA answer
abbrev pub drq : List ℕ
drq = 68 ∷ 82 ∷ 81 ∷ 0 ∷ []

abbrev pub drc : List ℕ
drc = 68 ∷ 82 ∷ 67 ∷ 0 ∷ []

abbrev pub drt : List ℕ
drt = 68 ∷ 82 ∷ 84 ∷ 0 ∷ []

abbrev pub drs : List ℕ
drs = 68 ∷ 82 ∷ 83 ∷ 0 ∷ []

abbrev pub dra : List ℕ
dra = 68 ∷ 82 ∷ 65 ∷ 0 ∷ []

-- whether b begins with the bytes of a mark
abbrev pub starts : List ℕ → List ℕ → Bool
starts [] b = true
starts (m ∷ ms) [] = false
starts (m ∷ ms) (x ∷ b) = eqb x m && starts ms b

-- at least eight bytes, the mark with its zero byte, version 1
unfoldable pub headed : List ℕ → List ℕ → Bool
headed mark b = leb 8 (length b) && (starts mark b && eqb (u16_at b 4) 1)

-- the count
abbrev pub count_at : List ℕ → ℕ
count_at b = u16_at b 6

-- the eight bytes of a header
unfoldable pub header : List ℕ → ℕ → List ℕ
header mark n = mark ++ (le16 1 ++ le16 n)
