-- A store over a catalogue of n records (31 to 33): how long it has to be, and its first row class or cell that breaks its rule.
-- A byte past the end counts as 0. Assumes nothing.
use Rattle.std.specs.Prelude.{ℕ, zero, suc, ◌+◌, ◌-◌, ◌*◌, ◌/◌, ◌%◌, ◌^◌, Bool, true, cond, ◌&&◌, List, get_or, length, eqb, ltb, leb}
use Rattle.word.specs.Bytes.{u16_at, u32_at}
use Rattle.word.specs.Header.{drs, headed, count_at}
use Rattle.word.specs.Record.{kind_at, op_at, b_at, c_at}
use Rattle.word.specs.Refusal.{Checked, fine, refusal, and_then}
use Rattle.class.specs.Info.{info_by, info_test}
use Rattle.catalogue.specs.Fault as fault

-- the class at a place keeps what record i says: a fixed class equals the catalogue's, a stored one is dominated by its bound
unfoldable pub class_rule : List ℕ → ℕ → List ℕ → ℕ → Bool
class_rule c i s at = info_test (info_by (op_at c i) (b_at c i)) (u16_at s at)

-- |m| of a signed 32-bit value, by its bits
unfoldable pub magnitude : ℕ → ℕ
magnitude v = cond (ltb v 2147483648) v (4294967296 - v)

-- a value, by the type's high and low byte and its null mark: a null is 0, a boolean 0 or 1, a fixed |m| < 10^p, a class 16 bits
unfoldable pub value_rule : ℕ → ℕ → ℕ → ℕ → Bool
value_rule high low mark v =
    cond (eqb mark 1) (eqb v 0)
    (cond (eqb high 1) (leb v 1)
    (cond (eqb high 2) (ltb (magnitude v) (10 ^ (low / 16)))
    (cond (eqb high 5) (leb v 65535) true)))

-- the cell at a place keeps the rule of column record j
unfoldable pub cell_rule : List ℕ → ℕ → List ℕ → ℕ → Bool
cell_rule c j s at =
    (leb (get_or s at 0) 1 && eqb (get_or s (at + 1) 0) 0)
    && (class_rule c j s (at + 2) && value_rule (c_at c j / 256) (c_at c j % 256) (get_or s at 0) (u32_at s (at + 4)))

-- where the cell of column number j stands in the row at a place: after the row class and j cells
unfoldable pub cell_place : ℕ → ℕ → ℕ
cell_place at j = at + 2 + 8 * j

-- the columns that stand from record i on, of k records: how many
unfoldable pub columns_from : List ℕ → ℕ → ℕ → ℕ
columns_from c zero i = 0
columns_from c (suc k) i = let more = 1 + columns_from c k (i + 1) in cond (eqb (kind_at c i) 2) more 0

-- the bytes of a row of table record i, of n
unfoldable pub row_size : List ℕ → ℕ → ℕ → ℕ
row_size c n i = cell_place 0 (columns_from c (n - (i + 1)) (i + 1))

-- the place behind record i's table; a column record has nothing of its own
unfoldable pub place_after : List ℕ → ℕ → List ℕ → ℕ → ℕ → ℕ
place_after c n s i at = cond (eqb (kind_at c i) 1) (at + 2 + u16_at s at * row_size c n i) at

-- the place of record i's table: behind the tables of the records before it
unfoldable pub place_of : List ℕ → ℕ → List ℕ → ℕ → ℕ
place_of c n s zero = 8
place_of c n s (suc i) = place_after c n s i (place_of c n s i)

-- THE LENGTH: the place behind the tables of the k records from i
unfoldable pub end_from : List ℕ → ℕ → List ℕ → ℕ → ℕ → ℕ → ℕ
end_from c n s zero i at = at
end_from c n s (suc k) i at = end_from c n s k (i + 1) (place_after c n s i at)

-- THE FIRST FAULT: its place, 0 for none. The earlier of two:
unfoldable pub first : ℕ → ℕ → ℕ
first a b = cond (eqb a 0) b a

-- in the cells of the row at a place, for the columns from number j on, which stand from record i on
unfoldable pub cells_fault : List ℕ → List ℕ → ℕ → ℕ → ℕ → ℕ → ℕ
cells_fault c s zero i at j = 0
cells_fault c s (suc k) i at j =
    let more = cells_fault c s k (i + 1) at (j + 1) in
    cond (eqb (kind_at c i) 2) (cond (cell_rule c i s (cell_place at j)) more (cell_place at j)) 0

-- in a row of table record i: its class, its cells
unfoldable pub row_fault : List ℕ → ℕ → List ℕ → ℕ → ℕ → ℕ
row_fault c n s i at = cond (class_rule c i s at) (cells_fault c s (n - (i + 1)) (i + 1) at 0) at

-- in so many rows, each of so many bytes
unfoldable pub rows_fault : List ℕ → ℕ → List ℕ → ℕ → ℕ → ℕ → ℕ → ℕ
rows_fault c n s i zero at size = 0
rows_fault c n s i (suc r) at size = first (row_fault c n s i at) (rows_fault c n s i r (at + size) size)

unfoldable pub table_fault : List ℕ → ℕ → List ℕ → ℕ → ℕ → ℕ
table_fault c n s i at = cond (eqb (kind_at c i) 1) (rows_fault c n s i (u16_at s at) (at + 2) (row_size c n i)) 0

unfoldable pub fault_from : List ℕ → ℕ → List ℕ → ℕ → ℕ → ℕ → ℕ
fault_from c n s zero i at = 0
fault_from c n s (suc k) i at = first (table_fault c n s i at) (fault_from c n s k (i + 1) (place_after c n s i at))

-- THE CHECK of a store, over a catalogue of n records with so many tables
unfoldable pub verdict_by : ℕ → Checked (Unit {0})
verdict_by place = cond (eqb place 0) (fine tt) (refusal 33 place)

unfoldable pub check_of : List ℕ → ℕ → ℕ → List ℕ → Checked (Unit {0})
check_of c n tables s =
    cond (headed drs s)
    (cond ((leb (length s) 65528 && eqb (count_at s) tables) && eqb (end_from c n s n 0 8) (length s)) (verdict_by (fault_from c n s n 0 8)) (refusal 32 0))
    (refusal 31 0)

-- BOTH FILES: the catalogue's refusal, or the store's answer over its tables
unfoldable pub files_of : List ℕ → List ℕ → Checked (Unit {0})
files_of c s = and_then (fault.check_of c) (λ tables. check_of c (count_at c) tables s)
