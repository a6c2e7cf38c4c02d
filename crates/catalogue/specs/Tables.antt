-- What a catalogue says: from its bytes to its tables with their columns. Total: what the check refuses has a reading too.
-- Assumes nothing.
use Rattle.std.specs.Prelude.{ℕ, zero, suc, ◌+◌, ◌-◌, ◌/◌, ◌%◌, cond, List, [], ◌∷◌, eqb}
use Rattle.word.specs.Header.{count_at}
use Rattle.word.specs.Record.{kind_at, op_at, a_at, b_at, c_at}
use Rattle.class.specs.Info.{info_by}
use Rattle.class.specs.declared.Info.{Info}
use Rattle.cell.specs.Types.{type_by}
use Rattle.cell.specs.Res.{Res, stuck, done}
use Rattle.cell.specs.declared.Type.{«Type» as Ty}

-- a column: its name, its type, what is known of its cells' class
pub record Column : Type 0 where
  pub cname : ℕ
  pub ty : Ty
  pub info : Info

-- a table: its name, its class, what is known of its rows' class, its columns
pub record Table : Type 0 where
  pub tname : ℕ
  pub tclass : ℕ
  pub row : Info
  pub cols : List Column

-- the column of record i
unfoldable pub column_at : List ℕ → ℕ → Column
column_at c i = record { cname = a_at c i; ty = type_by (c_at c i / 256) (c_at c i % 256); info = info_by (op_at c i) (b_at c i) }

-- the columns that stand from record i on, in at most so many records
unfoldable pub cols_from : List ℕ → ℕ → ℕ → List Column
cols_from c zero i = []
cols_from c (suc k) i = let more = column_at c i ∷ cols_from c k (i + 1) in cond (eqb (kind_at c i) 2) more []

-- the table of record i, of n records
unfoldable pub table_at : List ℕ → ℕ → ℕ → Table
table_at c n i =
    record { tname = a_at c i; tclass = c_at c i; row = info_by (op_at c i) (b_at c i); cols = cols_from c (n - (i + 1)) (i + 1) }

-- the tables that stand in the k records from i on, of n
unfoldable pub tables_from : List ℕ → ℕ → ℕ → ℕ → List Table
tables_from c n zero i = []
tables_from c n (suc k) i = let rest = tables_from c n k (i + 1) in cond (eqb (kind_at c i) 1) (table_at c n i ∷ rest) rest

-- THE CATALOGUE: its tables in order
unfoldable pub catalogue_of : List ℕ → List Table
catalogue_of c = tables_from c (count_at c) (count_at c) 0

-- a table of a block: its number among the tables, from 0, and what the catalogue says of it
pub record TabRef : Type 0 where
  pub num : ℕ
  pub table : Table

unfoldable pub later : Res TabRef → Res TabRef
later stuck = stuck
later (done r) = done (record { num = suc r.num; table = r.table })

-- the table of a name; names are used once
unfoldable pub table_named : ℕ → List Table → Res TabRef
table_named name [] = stuck
table_named name (t ∷ ts) = let more = later (table_named name ts) in cond (eqb t.tname name) (done (record { num = 0; table = t })) more
