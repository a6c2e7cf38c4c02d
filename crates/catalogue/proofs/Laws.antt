-- How each look-back, the look-forward and the lowest fault go by one record; and the check, by header, count and length.
-- Assumes nothing.
use Prim.Native.Nat.{ℕ, zero, suc, ◌+◌, ◌-◌, ◌<◌, ◌≤◌}
use mathlib.Core.Path.{◌≡◌, refl, ◌∙◌}
use mathlib.Core.Bool.{Bool, true, false, cond, and-false}
use mathlib.Core.List.{List}
use native.Mathlib.Omega.{arith}
use native.Mathlib.Numerals.{add-one}
use borrow.Author.Tests.{eq-eqb, ne_eqb}
use lib.Dec.{eqb}
use Rattle.word.specs.Record.{kind_at, a_at}
use Rattle.catalogue.specs.Fault.{one_table, one_column, tables_before, columns_before, table_used, column_used, has_column, fault_at, lowest}
use Rattle.catalogue.proofs.Rising.{tables_to_begin, columns_to_begin, table_unused, column_unused, tables_to_again, columns_to_again}
use Rattle.word.specs.Refusal.{fine, refusal, number_of}
use Rattle.catalogue.specs.declared.Seen.{Seen}
use Rattle.word.specs.declared.refusal.Reason.{Reason}
use Rattle.word.specs.declared.refusal.Reason.TheVariants as reason
use Rattle.catalogue.specs.Rising.{Sees, table_top, column_top}

-- looking back from record j for a table's name
module _ (c : List ℕ) (name : ℕ) where
  pub table_used_none : (j : ℕ) → j ≤ 0 → table_used c name j ≡ false
  unfolding table_used
  table_used_none j h = let e : j ≡ 0 = omega arith in rw e

  pub table_used_here : (j : ℕ) → 0 < j → kind_at c (j - 1) ≡ 1 → a_at c (j - 1) ≡ name → table_used c name j ≡ true
  unfolding table_used
  table_used_here zero h e f = absurd (omega arith)
  table_used_here (suc j) h e f = let d : suc j - 1 ≡ j = omega arith in let e : kind_at c j ≡ 1 = rw d at e in let f : a_at c j ≡ name = rw d at f in rw (eq-eqb (kind_at c j) 1 e, eq-eqb (a_at c j) name f)

  pub table_used_kind : (j : ℕ) → 0 < j → (kind_at c (j - 1) ≡ 1 → ⊥) → table_used c name j ≡ table_used c name (j - 1)
  unfolding table_used
  table_used_kind zero h e = absurd (omega arith)
  table_used_kind (suc j) h e = let d : suc j - 1 ≡ j = omega arith in let e : kind_at c j ≡ 1 → ⊥ = rw d at e in rw (ne_eqb (kind_at c j) 1 e, d)

  pub table_used_name : (j : ℕ) → 0 < j → (a_at c (j - 1) ≡ name → ⊥) → table_used c name j ≡ table_used c name (j - 1)
  unfolding table_used
  table_used_name zero h e = absurd (omega arith)
  table_used_name (suc j) h e = let d : suc j - 1 ≡ j = omega arith in let e : a_at c j ≡ name → ⊥ = rw d at e in rw (ne_eqb (a_at c j) name e, and-false, d)

-- looking back from record j for a column's name
module _ (c : List ℕ) (name : ℕ) where
  pub column_used_none : (j : ℕ) → j ≤ 0 → column_used c name j ≡ false
  unfolding column_used
  column_used_none j h = let e : j ≡ 0 = omega arith in rw e

  pub column_used_table : (j : ℕ) → 0 < j → kind_at c (j - 1) ≡ 1 → column_used c name j ≡ false
  unfolding column_used
  column_used_table zero h e = absurd (omega arith)
  column_used_table (suc j) h e = let d : suc j - 1 ≡ j = omega arith in let e : kind_at c j ≡ 1 = rw d at e in rw (eq-eqb (kind_at c j) 1 e)

  pub column_used_here : (j : ℕ) → 0 < j → kind_at c (j - 1) ≡ 2 → a_at c (j - 1) ≡ name → column_used c name j ≡ true
  unfolding column_used
  column_used_here zero h e f = absurd (omega arith)
  column_used_here (suc j) h e f = let d : suc j - 1 ≡ j = omega arith in let e : kind_at c j ≡ 2 = rw d at e in let f : a_at c j ≡ name = rw d at f in rw (e, eq-eqb (a_at c j) name f)

  pub column_used_kind : (j : ℕ) → 0 < j → (kind_at c (j - 1) ≡ 1 → ⊥) → (kind_at c (j - 1) ≡ 2 → ⊥) → column_used c name j ≡ column_used c name (j - 1)
  unfolding column_used
  column_used_kind zero h e f = absurd (omega arith)
  column_used_kind (suc j) h e f = let d : suc j - 1 ≡ j = omega arith in let e : kind_at c j ≡ 1 → ⊥ = rw d at e in let f : kind_at c j ≡ 2 → ⊥ = rw d at f in rw (ne_eqb (kind_at c j) 1 e, ne_eqb (kind_at c j) 2 f, d)

  pub column_used_name : (j : ℕ) → 0 < j → (kind_at c (j - 1) ≡ 1 → ⊥) → (a_at c (j - 1) ≡ name → ⊥) → column_used c name j ≡ column_used c name (j - 1)
  unfolding column_used
  column_used_name zero h e f = absurd (omega arith)
  column_used_name (suc j) h e f = let d : suc j - 1 ≡ j = omega arith in let e : kind_at c j ≡ 1 → ⊥ = rw d at e in let f : a_at c j ≡ name → ⊥ = rw d at f in rw (ne_eqb (kind_at c j) 1 e, ne_eqb (a_at c j) name f, and-false, d)

-- looking forward from record j for a column
module _ (c : List ℕ) (n j : ℕ) where
  left_one : j < n → n - j ≡ suc (n - (j + 1))
  left_one h = omega arith

  pub has_column_here : j < n → kind_at c j ≡ 2 → has_column c (n - j) j ≡ true
  unfolding has_column
  has_column_here h e = rw (left_one h, e)

  pub has_column_table : j < n → kind_at c j ≡ 1 → has_column c (n - j) j ≡ false
  unfolding has_column
  has_column_table h e = rw (left_one h, e)

  pub has_column_more : j < n → (kind_at c j ≡ 2 → ⊥) → (kind_at c j ≡ 1 → ⊥) → has_column c (n - j) j ≡ has_column c (n - (j + 1)) (j + 1)
  unfolding has_column
  has_column_more h e f = rw (left_one h, ne_eqb _ _ e, ne_eqb _ _ f)

  pub has_column_none : n ≤ j → has_column c (n - j) j ≡ false
  unfolding has_column
  has_column_none h = let e : n - j ≡ 0 = omega arith in rw e

pub ruleset looks = (table_unused, column_unused, table_used_none, table_used_here, table_used_kind, table_used_name, column_used_none, column_used_table, column_used_here, column_used_kind, column_used_name, has_column_here, has_column_table, has_column_more, has_column_none)

-- the lowest fault, one record further
module _ (c : List ℕ) (n i : ℕ) where
  pub lowest_here : i < n → (fault_at c n i ≡ 0 → ⊥) → lowest c n (n - i) i ≡ refusal (fault_at c n i) i
  unfolding lowest
  lowest_here h e = let d : n - i ≡ suc (n - (i + 1)) = omega arith in rw (d, ne_eqb (fault_at c n i) 0 e)

  pub lowest_more : i < n → fault_at c n i ≡ 0 → lowest c n (n - i) i ≡ lowest c n (n - (i + 1)) (i + 1)
  unfolding lowest
  lowest_more h e = let d : n - i ≡ suc (n - (i + 1)) = omega arith in rw (d, e)

  pub lowest_none : n ≤ i → lowest c n (n - i) i ≡ fine (tables_before c i)
  unfolding lowest
  lowest_none h = let d : n - i ≡ 0 = omega arith in rw d

-- no more tables than records, and no more columns
module _ (c : List ℕ) where
  pub tables_few : (i : ℕ) → tables_before c i ≤ i
  unfolding tables_before
  tables_few zero = omega arith
  tables_few (suc i) = go (eqb (kind_at c i) 1) (tables_few i)
    where
      go : (b : Bool) → tables_before c i ≤ i → cond b (tables_before c i + 1) (tables_before c i) ≤ suc i
      go true h = omega arith
      go false h = omega arith

  pub columns_few : (i : ℕ) → columns_before c i ≤ i
  unfolding columns_before
  columns_few zero = omega arith
  columns_few (suc i) = go (eqb (kind_at c i) 1) (eqb (kind_at c i) 2) (columns_few i)
    where
      go : (a b : Bool) → columns_before c i ≤ i → cond a 0 (cond b (columns_before c i + 1) (columns_before c i)) ≤ suc i
      go true b h = omega arith
      go false true h = omega arith
      go false false h = omega arith

  -- nothing is seen before the first record; and one record further
  pub sees_begin : Sees c 0 (record { tables = 0; columns = 0; highest_table = 0; highest_column = 0 })
  unfolding tables_before columns_before
  sees_begin = record { tables = refl; columns = refl; tables_to = tables_to_begin c; columns_to = columns_to_begin c }

  pub sees_more : (i kind name : ℕ) (s t : Seen) → kind ≡ kind_at c i → name ≡ a_at c i → Sees c i s
      → t.tables ≡ one_table kind s.tables → t.columns ≡ one_column kind s.columns → t.highest_table ≡ table_top kind name s.highest_table → t.highest_column ≡ column_top kind name s.highest_column
      → Sees c (i + 1) t
  unfolding tables_before columns_before
  sees_more i kind name s t e f h p q u v =
      record {
        tables = p ∙ rw (add-one i, e, h.tables);
        columns = q ∙ rw (add-one i, e, h.columns);
        tables_to = tables_to_again c i kind name s.highest_table t.highest_table e f h.tables_to u;
        columns_to = columns_to_again c i kind name s.highest_column t.highest_column e f h.columns_to v;
      }

-- a reason's number isn't 0
pub number_some : (reason : Reason) → 1 ≤ number_of reason
number_some reason.ViewHeader = omega arith
number_some reason.ViewLength = omega arith
number_some reason.FieldOutOfRule = omega arith
number_some reason.WrongPlace = omega arith
number_some reason.TooDeep = omega arith
number_some reason.NoTable = omega arith
number_some reason.NoColumn = omega arith
number_some reason.Ambiguous = omega arith
number_some reason.WrongType = omega arith
number_some reason.TreeTooLarge = omega arith
number_some reason.CatalogueHeader = omega arith
number_some reason.CatalogueLength = omega arith
number_some reason.CatalogueRule = omega arith
number_some reason.NameUsed = omega arith
number_some reason.StoreHeader = omega arith
number_some reason.StoreLength = omega arith
number_some reason.StoreRule = omega arith
number_some reason.AnswerTooLarge = omega arith

pub ruleset lows = (lowest_here, lowest_more, lowest_none, tables_few, columns_few, number_some)
