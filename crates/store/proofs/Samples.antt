-- The definitions compute: a small catalogue, stores over it with their answers, and what the first of them says.
-- Assumes nothing.
use Prim.Native.Nat.{ℕ}
use mathlib.Core.Path.{◌≡◌, refl}
use mathlib.Core.Bool.{true}
use mathlib.Core.List.{List, [], ◌∷◌, ◌++◌, map}
use lib.IntN.{pos, negsuc}
use Rattle.word.specs.Bytes.{signed32, i32_at}
use Rattle.word.specs.Header.{headed}
use Rattle.class.specs.Class.{level, mark, dominatesb}
use Rattle.class.specs.Info.{info_by, info_test}
use Rattle.cell.specs.Types.{digits_rule, type_rule, type_by}
use Rattle.cell.specs.declared.Value.TheVariants.{Null, Truth, Fixed}
use Rattle.catalogue.specs.Fault as fault
use Rattle.catalogue.specs.Starts.{starts_from}
use Rattle.store.specs.Layout.{class_rule, magnitude, value_rule, cell_rule, cell_place, columns_from, row_size, place_after, place_of, end_from, first, cells_fault, row_fault, rows_fault, table_fault, fault_from, verdict_by, check_of, files_of}
use Rattle.store.specs.Rows.{value_of, cell_at, cells_from, row_at, rows_from, table_rows, tables_rows, store_of}
use Rattle.store.specs.Spans.{span_of}
use Rattle.word.specs.Refusal.{fine, refusal}

-- a table: row class stored, within 4096; a column of type fixed (4,2), class 0; a boolean column, class stored, within 8193
abbrev pub catalogue : List ℕ
catalogue =
    68 ∷ 82 ∷ 67 ∷ 0 ∷ 1 ∷ 0 ∷ 3 ∷ 0 ∷ 1 ∷ 1 ∷ 7 ∷ 0 ∷ 0 ∷ 16 ∷ 0 ∷ 0 ∷
    2 ∷ 0 ∷ 20 ∷ 0 ∷ 0 ∷ 0 ∷ 66 ∷ 2 ∷ 2 ∷ 1 ∷ 21 ∷ 0 ∷ 1 ∷ 32 ∷ 0 ∷ 1 ∷ []

-- a store's header for so many tables, and a row count
abbrev pub head : ℕ → ℕ → List ℕ
head tables rows = 68 ∷ 82 ∷ 83 ∷ 0 ∷ 1 ∷ 0 ∷ tables ∷ 0 ∷ rows ∷ 0 ∷ []

-- a row class by its high byte
abbrev pub row : ℕ → List ℕ
row high = 0 ∷ high ∷ []

-- a cell of class 0, by its mark and the bytes of its value
abbrev pub cell : ℕ → ℕ → ℕ → List ℕ
cell null low high = null ∷ 0 ∷ 0 ∷ 0 ∷ low ∷ high ∷ high ∷ high ∷ []

-- a boolean cell of a class
abbrev pub marked : ℕ → ℕ → List ℕ
marked null class = null ∷ 0 ∷ class ∷ 32 ∷ 0 ∷ 0 ∷ 0 ∷ 0 ∷ []

-- two rows
abbrev pub two_rows : List ℕ
two_rows = head 1 2 ++ row 16 ++ cell 0 120 0 ++ marked 1 1 ++ row 0 ++ cell 0 251 255 ++ cell 0 1 0

pub worked_cases : map (files_of catalogue) (
    two_rows ∷
    -- no rows
    head 1 0 ∷
    -- the catalogue's mark
    catalogue ∷
    -- another number of tables
    (head 2 1 ++ row 16 ++ cell 0 120 0 ++ cell 0 1 0) ∷
    -- a byte too many
    (two_rows ++ (0 ∷ [])) ∷
    -- a row class above its bound
    (head 1 1 ++ row 32 ++ cell 0 120 0 ++ cell 0 1 0) ∷
    -- a null with value 1
    (head 1 1 ++ row 16 ++ cell 1 1 0 ++ cell 0 1 0) ∷
    -- a boolean of 2
    (head 1 1 ++ row 16 ++ cell 0 120 0 ++ cell 0 2 0) ∷
    -- a stored class with a mark that its bound hasn't
    (head 1 1 ++ row 16 ++ cell 0 120 0 ++ marked 0 2) ∷
    []) ≡
    fine tt ∷ fine tt ∷ refusal 31 0 ∷ refusal 32 0 ∷ refusal 32 0 ∷ refusal 33 10 ∷ refusal 33 12 ∷ refusal 33 20 ∷ refusal 33 20 ∷ []
unfolding files_of fault.check_of fault.lowest fault.fault_by fault.table_fault fault.tables_before fault.has_column fault.table_used fault.column_fault fault.columns_before fault.column_used headed type_rule digits_rule check_of end_from place_after row_size columns_from cell_place verdict_by fault_from table_fault rows_fault row_fault cells_fault cell_rule class_rule value_rule magnitude first info_by info_test dominatesb level mark
worked_cases = refl

-- the rows of the first
pub worked_rows : store_of catalogue two_rows ≡
    (record { rclass = 4096; cells = record { value = Fixed 2 (pos 120); class = 0 } ∷ record { value = Null; class = 8193 } ∷ [] } ∷
    record { rclass = 0; cells = record { value = Fixed 2 (negsuc 4); class = 0 } ∷ record { value = Truth true; class = 0 } ∷ [] } ∷ []) ∷ []
unfolding store_of tables_rows table_rows rows_from row_at cells_from cell_at value_of place_after row_size columns_from cell_place type_by i32_at signed32
worked_rows = refl

-- and where they stand
pub worked_spans : map (span_of catalogue 3 two_rows) (starts_from catalogue 3 0) ≡ record { first = 10; rows = 2; size = 18 } ∷ []
unfolding span_of starts_from place_of place_after row_size columns_from cell_place
worked_spans = refl
