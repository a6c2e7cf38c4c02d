-- What is wrong with a catalogue (21 to 24): for each record its fault, and the lowest record that has one.
-- Assumes nothing.
use Rattle.std.specs.Prelude.{ℕ, zero, suc, ◌+◌, ◌-◌, ◌*◌, ◌/◌, ◌%◌, Bool, true, false, cond, ◌&&◌, List, Option, Some, None, length, eqb, ltb, leb}
use Rattle.word.specs.Bytes.{within}
use Rattle.word.specs.Header.{drc, headed, count_at}
use Rattle.word.specs.Record.{kind_at, op_at, a_at, c_at}
use Rattle.cell.specs.Types.{type_rule}
use Rattle.word.specs.Refusal.{Checked, fine, refusal, number_of}
use Rattle.word.specs.declared.refusal.Reason.{Reason}

-- a name isn't 0, and op is 0 (the class is fixed) or 1 (stored, within a bound)
abbrev pub named_rule : ℕ → ℕ → Bool
named_rule name op = leb 1 name && leb op 1

-- LOOKING BACK from record i, over the records before it.
-- how many tables stand before record i
abbrev pub one_table : ℕ → ℕ → ℕ
one_table kind tables = cond (eqb kind 1) (tables + 1) tables

unfoldable pub tables_before : List ℕ → ℕ → ℕ
tables_before c zero = 0
tables_before c (suc i) = one_table (kind_at c i) (tables_before c i)

-- how many columns the table before record i has so far
abbrev pub one_column : ℕ → ℕ → ℕ
one_column kind columns = cond (eqb kind 1) 0 (cond (eqb kind 2) (columns + 1) columns)

unfoldable pub columns_before : List ℕ → ℕ → ℕ
columns_before c zero = 0
columns_before c (suc i) = one_column (kind_at c i) (columns_before c i)

-- a table record before i has the name
unfoldable pub table_used : List ℕ → ℕ → ℕ → Bool
table_used c name zero = false
table_used c name (suc i) = let more = table_used c name i in cond (eqb (kind_at c i) 1 && eqb (a_at c i) name) true more

-- a column record before i and after the last table record has the name
unfoldable pub column_used : List ℕ → ℕ → ℕ → Bool
column_used c name zero = false
column_used c name (suc i) =
    let more = column_used c name i in
    cond (eqb (kind_at c i) 1) false (cond (eqb (kind_at c i) 2 && eqb (a_at c i) name) true more)

-- LOOKING FORWARD: among the k records from i a column stands before the next table
unfoldable pub has_column : List ℕ → ℕ → ℕ → Bool
has_column c zero i = false
has_column c (suc k) i = let more = has_column c k (i + 1) in cond (eqb (kind_at c i) 2) true (cond (eqb (kind_at c i) 1) false more)

-- THE FAULT of record i, of n: 0 none, 23 a rule broken, 24 a name used before. So many tables stand before it, the last with so many columns.
unfoldable pub table_fault : List ℕ → ℕ → ℕ → ℕ → ℕ
table_fault c n i tables =
    cond (named_rule (a_at c i) (op_at c i) && ltb tables 32)
    (cond (has_column c (n - (i + 1)) (i + 1)) (cond (table_used c (a_at c i) i) 24 0) 23)
    23

unfoldable pub column_fault : List ℕ → ℕ → ℕ → ℕ → ℕ
column_fault c i tables columns =
    cond (named_rule (a_at c i) (op_at c i) && (ltb 0 tables && ltb columns 64))
    (cond (type_rule (c_at c i / 256) (c_at c i % 256)) (cond (column_used c (a_at c i) i) 24 0) 23)
    23

unfoldable pub fault_by : List ℕ → ℕ → ℕ → ℕ → ℕ → ℕ
fault_by c n i tables columns =
    cond (eqb (kind_at c i) 1) (table_fault c n i tables)
    (cond (eqb (kind_at c i) 2) (column_fault c i tables columns) 23)

abbrev pub fault_at : List ℕ → ℕ → ℕ → ℕ
fault_at c n i = fault_by c n i (tables_before c i) (columns_before c i)

-- the number of a fault, 0 for none
abbrev pub fault_number : Option Reason → ℕ
fault_number None = 0
fault_number (Some reason) = number_of reason

-- THE LOWEST FAULT among the k records from i, of n; with none, the number of tables
unfoldable pub lowest : List ℕ → ℕ → ℕ → ℕ → Checked ℕ
lowest c n zero i = fine (tables_before c i)
lowest c n (suc k) i = let more = lowest c n k (i + 1) in cond (eqb (fault_at c n i) 0) more (refusal (fault_at c n i) i)

-- THE CHECK: header (21), count and length (22), records (23, 24)
unfoldable pub check_of : List ℕ → Checked ℕ
check_of c =
    cond (headed drc c)
    (cond (within 1 2080 (count_at c) && eqb (length c) (8 + 8 * count_at c)) (lowest c (count_at c) (count_at c) 0) (refusal 22 0))
    (refusal 21 0)
