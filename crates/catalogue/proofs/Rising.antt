-- How the highest names go by one record, and that no name above them is used before.
-- Assumes nothing.
use Prim.Native.Nat.{ℕ, ◌+◌, ◌<◌, max}
use mathlib.Core.Path.{◌≡◌, refl, sym}
use mathlib.Core.Bool.{Bool, true, false, cond, ◌&&◌}
use mathlib.Core.List.{List}
use native.Mathlib.Omega.{arith}
use native.Mathlib.Numerals.{add-one}
use borrow.Author.Tests.{ne_eqb}
use lib.Dec.{eqb}
use Rattle.word.specs.Record.{kind_at, a_at}
use Rattle.catalogue.specs.Fault.{table_used, column_used}
use Rattle.catalogue.specs.Rising.{TablesTo, ColumnsTo, table_top, column_top}

module _ (c : List ℕ) where
  pub tables_to_begin : TablesTo c 0 0
  unfolding table_used
  tables_to_begin = record { unused = λ name h. refl }

  pub columns_to_begin : ColumnsTo c 0 0
  unfolding column_used
  columns_to_begin = record { unused = λ name h. refl }

  module _ (i : ℕ) {top : ℕ} (name : ℕ) where
    pub table_unused : TablesTo c i top → top < name → false ≡ table_used c name i
    table_unused h l = sym (h.unused name l)

    pub column_unused : ColumnsTo c i top → top < name → false ≡ column_used c name i
    column_unused h l = sym (h.unused name l)

-- one record further: k its kind is a table's or a column's, a its name, t the highest name before it
table_more : (k a t m : ℕ) (p more : Bool) → cond p (max t a) t < m → (t < m → more ≡ false) → cond (p && eqb a m) true more ≡ false
table_more k a t m true more h f = rw (ne_eqb a m (λ e. omega arith)) (f (omega arith))
table_more k a t m false more h f = f h

column_more : (k a t m : ℕ) (p q more : Bool) → cond p 0 (cond q (max t a) t) < m → (t < m → more ≡ false)
    → cond p false (cond (q && eqb a m) true more) ≡ false
column_more k a t m true q more h f = refl
column_more k a t m false true more h f = rw (ne_eqb a m (λ e. omega arith)) (f (omega arith))
column_more k a t m false false more h f = f h

module _ (c : List ℕ) (i kind name t r : ℕ) (e : kind ≡ kind_at c i) (f : name ≡ a_at c i) where
  pub tables_to_again : TablesTo c i t → r ≡ table_top kind name t → TablesTo c (i + 1) r
  unfolding table_used
  tables_to_again h q =
      record { unused = λ m l. rw (add-one i, ← e, ← f) (table_more kind name t m (eqb kind 1) (table_used c m i) (rw (← q) l) (h.unused m)) }

  pub columns_to_again : ColumnsTo c i t → r ≡ column_top kind name t → ColumnsTo c (i + 1) r
  unfolding column_used
  columns_to_again h q =
      record {
        unused = λ m l. rw (add-one i, ← e, ← f) (column_more kind name t m (eqb kind 1) (eqb kind 2) (column_used c m i) (rw (← q) l) (h.unused m));
      }
