-- A record of eight bytes: kind and op (a byte each), then a, b, c (16 bits each). Record i stands after the header and i records.
-- Assumes nothing.
use Rattle.std.specs.Prelude.{ℕ, ◌+◌, ◌*◌, ◌/◌, ◌%◌, List, [], ◌∷◌, get_or}
use Rattle.word.specs.Bytes.{u16_at}
use Rattle.word.specs.declared.Record as declared

-- the type of a record
abbrev pub Record : Type 0
Record = declared.Record

-- the fields of record i
abbrev pub kind_at : List ℕ → ℕ → ℕ
kind_at f i = get_or f (8 + 8 * i) 0

abbrev pub op_at : List ℕ → ℕ → ℕ
op_at f i = get_or f (8 + 8 * i + 1) 0

abbrev pub a_at : List ℕ → ℕ → ℕ
a_at f i = u16_at f (8 + 8 * i + 2)

abbrev pub b_at : List ℕ → ℕ → ℕ
b_at f i = u16_at f (8 + 8 * i + 4)

abbrev pub c_at : List ℕ → ℕ → ℕ
c_at f i = u16_at f (8 + 8 * i + 6)

-- record i, whole
unfoldable pub rec_at : List ℕ → ℕ → Record
rec_at f i = record { kind = kind_at f i; op = op_at f i; a = a_at f i; b = b_at f i; c = c_at f i }

-- the eight bytes of a record
unfoldable pub rec_bytes : ℕ → ℕ → ℕ → ℕ → ℕ → List ℕ
rec_bytes kind op a b c = kind ∷ op ∷ a % 256 ∷ a / 256 ∷ b % 256 ∷ b / 256 ∷ c % 256 ∷ c / 256 ∷ []
