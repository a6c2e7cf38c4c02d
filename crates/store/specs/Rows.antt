-- What a store says over its catalogue: the rows of each table, in catalogue order. Total: what the check refuses has a reading too.
-- Assumes nothing.
use Rattle.std.specs.Prelude.{ℕ, zero, suc, ◌+◌, ◌-◌, ◌/◌, ◌%◌, cond, List, [], ◌∷◌, get_or, eqb, ℤ, nat_abs}
use Rattle.word.specs.Bytes.{u16_at, bits32, i32_at}
use Rattle.word.specs.Header.{count_at}
use Rattle.word.specs.Record.{kind_at, c_at}
use Rattle.class.specs.Info.{InfoOk}
use Rattle.cell.specs.Types.{type_by}
use Rattle.cell.specs.Values.{HasTy}
use Rattle.cell.specs.declared.Type.{«Type» as Ty}
use Rattle.cell.specs.declared.Type.TheVariants as T
use Rattle.cell.specs.declared.Value.{Value}
use Rattle.cell.specs.declared.Value.TheVariants.{Null, Truth, Fixed, Time, Interval, Class}
use Rattle.cell.specs.declared.Cell.{Cell}
use Rattle.catalogue.specs.Tables.{Column, Table}
use Rattle.store.specs.Layout.{cell_place, row_size, place_after}

-- a row: its class, and its cells in the columns' order
pub record Row : Type 0 where
  pub rclass : ℕ
  pub cells : List Cell

-- a value of a type by its 32 signed bits; a class is the low 16 of them
unfoldable pub value_of : Ty → ℤ → Value
value_of T.Null m = Null
value_of T.Boolean m = Truth (eqb (nat_abs m) 1)
value_of (T.Fixed p s) m = Fixed s m
value_of (T.Time f) m = Time m
value_of (T.Interval f) m = Interval m
value_of T.Class m = Class (bits32 m % 65536)

-- the cell at a place, of a type: null mark (0 or 1), zero byte, class, value
unfoldable pub cell_at : List ℕ → Ty → ℕ → Cell
cell_at s t at = record { value = cond (eqb (get_or s at 0) 1) Null (value_of t (i32_at s (at + 4))); class = u16_at s (at + 2) }

-- the cells of the row at a place, for the columns from number j on, which stand from record i on
unfoldable pub cells_from : List ℕ → List ℕ → ℕ → ℕ → ℕ → ℕ → List Cell
cells_from c s zero i at j = []
cells_from c s (suc k) i at j =
    let more = cell_at s (type_by (c_at c i / 256) (c_at c i % 256)) (cell_place at j) ∷ cells_from c s k (i + 1) at (j + 1) in
    cond (eqb (kind_at c i) 2) more []

-- the row at a place, of table record i
unfoldable pub row_at : List ℕ → ℕ → List ℕ → ℕ → ℕ → Row
row_at c n s i at = record { rclass = u16_at s at; cells = cells_from c s (n - (i + 1)) (i + 1) at 0 }

-- so many rows from a place on, each of so many bytes
unfoldable pub rows_from : List ℕ → ℕ → List ℕ → ℕ → ℕ → ℕ → ℕ → List Row
rows_from c n s i zero at size = []
rows_from c n s i (suc r) at size = row_at c n s i at ∷ rows_from c n s i r (at + size) size

-- the rows of table record i, whose row count stands at a place
unfoldable pub table_rows : List ℕ → ℕ → List ℕ → ℕ → ℕ → List Row
table_rows c n s i at = rows_from c n s i (u16_at s at) (at + 2) (row_size c n i)

-- the rows of each table of the k records from i on; the first of them stands at a place
unfoldable pub tables_rows : List ℕ → ℕ → List ℕ → ℕ → ℕ → ℕ → List (List Row)
tables_rows c n s zero i at = []
tables_rows c n s (suc k) i at =
    let rest = tables_rows c n s k (i + 1) (place_after c n s i at) in
    cond (eqb (kind_at c i) 1) (table_rows c n s i at ∷ rest) rest

-- THE STORE: the rows of each table
unfoldable pub store_of : List ℕ → List ℕ → List (List Row)
store_of c s = tables_rows c (count_at c) s (count_at c) 0 8

-- every element; every pair of elements of two lists of one length
abbrev pub All : {A : Type 0} → (A → Type 0) → List A → Type 0
All P [] = Unit {0}
All P (x ∷ xs) = P x × All P xs

abbrev pub All2 : {A B : Type 0} → (A → B → Type 0) → List A → List B → Type 0
All2 R [] [] = Unit {0}
All2 R [] (y ∷ ys) = ⊥
All2 R (x ∷ xs) [] = ⊥
All2 R (x ∷ xs) (y ∷ ys) = R x y × All2 R xs ys

-- what an accepted store has: each class keeps what is known of it, each value is null or of its column's type
abbrev pub CellOk : Column → Cell → Type 0
CellOk k x = HasTy k.ty x.value × InfoOk k.info x.class

abbrev pub RowOk : Table → Row → Type 0
RowOk t r = InfoOk t.row r.rclass × All2 CellOk t.cols r.cells

abbrev pub StoreOk : List Table → List (List Row) → Type 0
StoreOk cat st = All2 (λ t rows. All (RowOk t) rows) cat st
