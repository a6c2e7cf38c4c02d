-- What is seen of the records before a record: how many tables and columns, and the highest name among those that a record's name may repeat: above it no name is used before, so that there's no need to look back.
-- Assumes nothing.
use Rattle.std.specs.Prelude.{ℕ, ◌<◌, max, ◌≡◌, false, cond, List, eqb}
use Rattle.catalogue.specs.Fault.{tables_before, columns_before, table_used, column_used}
use Rattle.catalogue.specs.declared.Seen.{Seen}

-- no table before record i has a name above `top`; and no column of the last table
pub record TablesTo (c : List ℕ) (i top : ℕ) : Type 0 where
  pub unused : (name : ℕ) → top < name → table_used c name i ≡ false

pub record ColumnsTo (c : List ℕ) (i top : ℕ) : Type 0 where
  pub unused : (name : ℕ) → top < name → column_used c name i ≡ false

-- what the records before record i say
pub record Sees (c : List ℕ) (i : ℕ) (seen : Seen) : Type 0 where
  pub tables : seen.tables ≡ tables_before c i
  pub columns : seen.columns ≡ columns_before c i
  pub tables_to : TablesTo c i seen.highest_table
  pub columns_to : ColumnsTo c i seen.highest_column

-- the highest names, one record further
abbrev pub table_top : ℕ → ℕ → ℕ → ℕ
table_top kind name top = cond (eqb kind 1) (max top name) top

abbrev pub column_top : ℕ → ℕ → ℕ → ℕ
column_top kind name top = cond (eqb kind 1) 0 (cond (eqb kind 2) (max top name) top)
