-- The classes of a row and of a cell, read by their places.
-- Assumes nothing.
use Prim.Native.Nat.{ℕ, ◌+◌}
use mathlib.Core.Path.{◌≡◌, refl}
use mathlib.Core.List.{List}
use Rattle.word.specs.Bytes.{u16_at}
use Rattle.cell.specs.declared.Type.{«Type» as Ty}
use Rattle.store.specs.Rows.{cell_at, row_at}

pub row_class_is : (c : List ℕ) (n : ℕ) (s : List ℕ) (i at : ℕ) → (row_at c n s i at).rclass ≡ u16_at s at
unfolding row_at
row_class_is c n s i at = refl

pub cell_class_is : (s : List ℕ) (t : Ty) (at : ℕ) → (cell_at s t at).class ≡ u16_at s (at + 2)
unfolding cell_at
cell_class_is s t at = refl
