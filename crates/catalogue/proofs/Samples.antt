-- The definitions compute: the check of small catalogues, and what a catalogue says.
-- Assumes nothing.
use Prim.Native.Nat.{ℕ}
use mathlib.Core.Path.{◌≡◌, refl}
use mathlib.Core.List.{List, [], ◌∷◌, ◌++◌, map}
use Rattle.word.specs.Bytes.{le16}
use Rattle.word.specs.Header.{drc, drq, headed, header}
use Rattle.word.specs.Record.{rec_bytes}
use Rattle.class.specs.Info.{info_by}
use Rattle.class.specs.declared.Info.TheVariants as I
use Rattle.cell.specs.Types.{type_by, type_rule, digits_rule}
use Rattle.cell.specs.declared.Type.TheVariants as T
use Rattle.catalogue.specs.Fault.{check_of, lowest, fault_by, table_fault, tables_before, has_column, table_used, column_fault, columns_before, column_used}
use Rattle.catalogue.specs.Tables.{catalogue_of, tables_from, table_at, cols_from, column_at}
use Rattle.word.specs.Refusal.{fine, refusal}

-- a table of a name; a boolean column of a name; a column of a name and a type word
abbrev table : ℕ → List ℕ
table a = rec_bytes 1 0 a 0 0

abbrev column : ℕ → List ℕ
column a = rec_bytes 2 0 a 0 256

abbrev typed : ℕ → ℕ → List ℕ
typed a word = rec_bytes 2 0 a 0 word

-- the table 7, whose rows store their class within 4096, with the column 20 of type fixed (4, 2) and the boolean column 21, whose cells store theirs within 8193
abbrev shown : List ℕ
shown = header drc 3 ++ (rec_bytes 1 1 7 4096 0 ++ (rec_bytes 2 0 20 0 578 ++ rec_bytes 2 1 21 8193 256))

pub worked_cases : map check_of (
    -- accepted: one table, two tables
    shown ∷
    (header drc 4 ++ (table 7 ++ (column 1 ++ (table 8 ++ column 1)))) ∷
    -- no bytes; a header that ends early; another mark
    [] ∷
    (drc ++ le16 1) ∷
    (header drq 2 ++ (table 7 ++ column 20)) ∷
    -- no records; fewer records than the count says; one byte more
    header drc 0 ∷
    header drc 3 ∷
    (header drc 2 ++ (table 7 ++ (column 20 ++ (0 ∷ [])))) ∷
    -- without columns: the table's own record, before the unknown kind after it
    (header drc 2 ++ (table 7 ++ rec_bytes 3 0 0 0 0)) ∷
    -- an unknown kind, and a column after it
    (header drc 3 ++ (table 7 ++ (rec_bytes 3 0 0 0 0 ++ column 20))) ∷
    -- a column before any table
    (header drc 1 ++ typed 6 546) ∷
    -- the name 0, of a column and of a table
    (header drc 2 ++ (table 7 ++ column 0)) ∷
    (header drc 2 ++ (table 0 ++ column 20)) ∷
    -- op 2
    (header drc 2 ++ (table 7 ++ rec_bytes 2 2 20 0 256)) ∷
    -- a bad column is still a column: fixed (0, 0), fixed (1, 2), fixed (9, 5), a boolean with a format, no type
    (header drc 2 ++ (table 7 ++ typed 20 512)) ∷
    (header drc 2 ++ (table 7 ++ typed 20 530)) ∷
    (header drc 2 ++ (table 7 ++ typed 20 661)) ∷
    (header drc 2 ++ (table 7 ++ typed 20 257)) ∷
    (header drc 2 ++ (table 7 ++ typed 20 1536)) ∷
    -- a table's name, a column's name used before; not one of another table
    (header drc 4 ++ (table 7 ++ (column 1 ++ (table 7 ++ column 1)))) ∷
    (header drc 4 ++ (table 7 ++ (column 1 ++ (column 2 ++ column 1)))) ∷
    (header drc 4 ++ (table 7 ++ (column 7 ++ (table 8 ++ column 7)))) ∷
    -- 23 before 24 at one record
    (header drc 3 ++ (table 7 ++ (column 20 ++ table 7))) ∷
    []) ≡
    fine 1 ∷ fine 2 ∷
    refusal 21 0 ∷ refusal 21 0 ∷ refusal 21 0 ∷
    refusal 22 0 ∷ refusal 22 0 ∷ refusal 22 0 ∷
    refusal 23 0 ∷ refusal 23 1 ∷ refusal 23 0 ∷ refusal 23 1 ∷ refusal 23 0 ∷ refusal 23 1 ∷
    refusal 23 1 ∷ refusal 23 1 ∷ refusal 23 1 ∷ refusal 23 1 ∷ refusal 23 1 ∷
    refusal 24 2 ∷ refusal 24 3 ∷ fine 2 ∷ refusal 23 2 ∷ []
unfolding check_of headed header le16 rec_bytes type_rule digits_rule lowest fault_by table_fault tables_before has_column table_used column_fault columns_before column_used
worked_cases = refl

pub worked_catalogue : catalogue_of shown ≡ record {
  tname = 7;
  tclass = 0;
  row = I.Bound 4096;
  cols = record { cname = 20; ty = T.Fixed 4 2; info = I.Fixed 0 } ∷ record { cname = 21; ty = T.Boolean; info = I.Bound 8193 } ∷ [];
} ∷ []
unfolding catalogue_of tables_from table_at cols_from column_at header le16 rec_bytes info_by type_by
worked_catalogue = refl
