-- What a reference gives and what it reads, once the cell, the row or the local that it names is found.
-- Assumes nothing.
use Prim.Native.Nat.{ℕ}
use mathlib.Core.Path.{◌≡◌, ap}
use mathlib.Core.List.{List, [], ◌∷◌}
use Rattle.cell.specs.Res.{done, bind, or_else}
use Rattle.cell.specs.declared.Type.{«Type» as Ty}
use Rattle.cell.specs.declared.Value.{Value}
use Rattle.cell.specs.declared.Value.TheVariants as X
use Rattle.cell.specs.declared.Cell.{Cell}
use Rattle.catalogue.specs.Tables.{Table, Column}
use Rattle.store.specs.Rows.{Row}
use Rattle.scope.specs.Scopes.{column, bound, one}
use Rattle.reading.specs.Reading.{Frame, row_in, cell_in, known_in, col_value, class_value, col_reads, class_reads}

module _ (ρ : List Frame) (a b c : ℕ) (t : Table) (k : Column) where
  -- a column: its cell's value, and its cell's class
  pub column_value : (x : Cell) → cell_in ρ a b c ≡ done x → col_value ρ (one (column a b c t k)) ≡ x.value
  unfolding col_value bind or_else
  column_value x e = ap (λ o. or_else X.Null (bind o (λ x. done x.value))) e

  pub column_reads : (x : Cell) → cell_in ρ a b c ≡ done x → col_reads ρ (one (column a b c t k)) ≡ x.class ∷ []
  unfolding col_reads bind or_else
  column_reads x e = ap (λ o. or_else [] (bind o (λ x. done (x.class ∷ [])))) e

  -- CLASSOF: its cell's class, and that row's row class
  pub classof_value : (x : Cell) → cell_in ρ a b c ≡ done x → class_value ρ (one (column a b c t k)) ≡ X.Class x.class
  unfolding class_value bind or_else
  classof_value x e = ap (λ o. or_else X.Null (bind o (λ x. done (X.Class x.class)))) e

  pub classof_reads : (r : Row) → row_in ρ a b ≡ done r → class_reads ρ (one (column a b c t k)) ≡ r.rclass ∷ []
  unfolding class_reads bind or_else
  classof_reads r e = ap (λ o. or_else [] (bind o (λ x. done (x.rclass ∷ [])))) e

module _ (ρ : List Frame) (a : ℕ) (t : Ty) (v : Value) (xs : List ℕ) (e : known_in ρ a ≡ done (v, xs)) where
  -- a local: its value, and all that its value read
  pub local_value : col_value ρ (one (bound a t)) ≡ v
  unfolding col_value bind or_else
  local_value = ap (λ o. or_else X.Null (bind o (λ x. done x.0))) e

  pub local_reads : col_reads ρ (one (bound a t)) ≡ xs
  unfolding col_reads bind or_else
  local_reads = ap (λ o. or_else [] (bind o (λ x. done x.1))) e
