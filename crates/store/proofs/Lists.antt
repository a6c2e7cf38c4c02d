-- The lists of a store by their elements: row r, cell j, and how many there are.
-- Assumes nothing.
use Prim.Native.Nat.{ℕ, zero, suc, ◌+◌, ◌-◌, ◌*◌, ◌/◌, ◌%◌, ◌<◌, ◌≤◌}
use mathlib.Core.Path.{◌≡◌, refl, ap}
use mathlib.Core.Bool.{Bool, true, false, cond}
use mathlib.Core.List.{List, [], ◌∷◌}
use native.Mathlib.Omega.{arith}
use native.Mathlib.Nat.{suc-mul}
use lib.ListN.{length}
use lib.Dec.{eqb}
use Rattle.word.specs.Record.{kind_at, c_at}
use Rattle.cell.specs.Res.{stuck, done, nth}
use Rattle.cell.specs.Types.{type_by}
use Rattle.catalogue.specs.Tables.{column_at, cols_from}
use Rattle.store.specs.Layout.{cell_place, columns_from}
use Rattle.store.specs.Rows.{All, All2, cell_at, cells_from, row_at, rows_from}

-- past the end there is no element
pub nth_past : {A : Type 0} (xs : List A) (j : ℕ) → length xs ≤ j → nth xs j ≡ stuck
unfolding nth
nth_past [] j h = refl
nth_past (x ∷ xs) zero h = absurd (omega arith)
nth_past (x ∷ xs) (suc j) h = nth_past xs j (omega arith)

-- what holds of every element, and of every pair, holds of those at a place
pub all_at : {A : Type 0} (P : A → Type 0) (xs : List A) → All P xs → (j : ℕ) (x : A) → nth xs j ≡ done x → P x
unfolding nth
all_at P [] h j x e = absurd (let z : ◌≡◌ {A = ℕ} 0 1 = cc in omega arith)
all_at P (y ∷ xs) h zero x e = let z : y ≡ x = cc in rw (← z) h.0
all_at P (y ∷ xs) h (suc j) x e = all_at P xs h.1 j x e

pub all2_at : {A B : Type 0} (R : A → B → Type 0) (xs : List A) (ys : List B) → All2 R xs ys → (j : ℕ) (x : A) (y : B) → nth xs j ≡ done x → nth ys j ≡ done y → R x y
unfolding nth
all2_at R [] [] h j x y e f = absurd (let z : ◌≡◌ {A = ℕ} 0 1 = cc in omega arith)
all2_at R [] (b ∷ ys) h j x y e f = absurd h
all2_at R (a ∷ xs) [] h j x y e f = absurd h
all2_at R (a ∷ xs) (b ∷ ys) h zero x y e f = let z : a ≡ x = cc in let w : b ≡ y = cc in rw (← z, ← w) h.0
all2_at R (a ∷ xs) (b ∷ ys) h (suc j) x y e f = all2_at R xs ys h.1 j x y e f

pub all2_length : {A B : Type 0} (R : A → B → Type 0) (xs : List A) (ys : List B) → All2 R xs ys → length xs ≡ length ys
all2_length R [] [] h = refl
all2_length R [] (b ∷ ys) h = absurd h
all2_length R (a ∷ xs) [] h = absurd h
all2_length R (a ∷ xs) (b ∷ ys) h = ap suc (all2_length R xs ys h.1)

module _ (c : List ℕ) (n : ℕ) (s : List ℕ) (i : ℕ) where
  -- row r
  pub nth_rows : (rows at size r : ℕ) → r < rows → nth (rows_from c n s i rows at size) r ≡ done (row_at c n s i (at + r * size))
  unfolding rows_from nth
  nth_rows zero at size r h = absurd (omega arith)
  nth_rows (suc rows) at size zero h = let z : at + 0 * size ≡ at = omega arith in rw z
  nth_rows (suc rows) at size (suc r) h =
      let z : at + size + r * size ≡ at + suc r * size = omega (arith, suc-mul r size) in
      rw (← z) (nth_rows rows (at + size) size r (omega arith))

  pub length_rows : (rows at size : ℕ) → length (rows_from c n s i rows at size) ≡ rows
  unfolding rows_from
  length_rows zero at size = refl
  length_rows (suc rows) at size = ap suc (length_rows rows (at + size) size)

module _ (c s : List ℕ) where
  -- cell m, of the columns from number j on, which stand from record i on
  pub nth_cells : (k i at j m : ℕ) → m < columns_from c k i → nth (cells_from c s k i at j) m ≡ done (cell_at s (type_by (c_at c (i + m) / 256) (c_at c (i + m) % 256)) (cell_place at (j + m)))
  unfolding cells_from columns_from nth
  nth_cells zero i at j m h = absurd (omega arith)
  nth_cells (suc k) i at j m h = go (nth_cells k (i + 1) at (j + 1)) (eqb (kind_at c i) 2) m h
    where
      go : ((m : ℕ) → m < columns_from c k (i + 1) → nth (cells_from c s k (i + 1) at (j + 1)) m ≡ done (cell_at s (type_by (c_at c (i + 1 + m) / 256) (c_at c (i + 1 + m) % 256)) (cell_place at (j + 1 + m))))
          → (b : Bool) (m : ℕ) → m < cond b (1 + columns_from c k (i + 1)) 0
          → nth (cond b (cell_at s (type_by (c_at c i / 256) (c_at c i % 256)) (cell_place at j) ∷ cells_from c s k (i + 1) at (j + 1)) []) m ≡ done (cell_at s (type_by (c_at c (i + m) / 256) (c_at c (i + m) % 256)) (cell_place at (j + m)))
      go ih false m h = absurd (omega (arith, h))
      go ih true zero h = let z : i + zero ≡ i = omega arith in let y : j + zero ≡ j = omega arith in unfold nth in rw (z, y)
      go ih true (suc m) h =
          let z : i + 1 + m ≡ i + suc m = omega arith in
          let y : j + 1 + m ≡ j + suc m = omega arith in
          unfold nth in rw (← z, ← y) (ih m (omega (arith, h)))

  pub length_cells : (k i at j : ℕ) → length (cells_from c s k i at j) ≡ columns_from c k i
  unfolding cells_from columns_from
  length_cells zero i at j = refl
  length_cells (suc k) i at j = go (eqb (kind_at c i) 2) (length_cells k (i + 1) at (j + 1))
    where
      go : (b : Bool) → length (cells_from c s k (i + 1) at (j + 1)) ≡ columns_from c k (i + 1)
          → length (cond b (cell_at s (type_by (c_at c i / 256) (c_at c i % 256)) (cell_place at j) ∷ cells_from c s k (i + 1) at (j + 1)) []) ≡ cond b (1 + columns_from c k (i + 1)) 0
      go true e = omega (arith, e)
      go false e = refl

-- cell m of the row at a place, of table record i: that of column record i + 1 + m
pub row_cell : (c : List ℕ) (n : ℕ) (s : List ℕ) (i at m : ℕ) → m < columns_from c (n - (i + 1)) (i + 1)
    → nth (row_at c n s i at).cells m ≡ done (cell_at s (column_at c (i + 1 + m)).ty (cell_place at m))
unfolding row_at column_at
row_cell c n s i at m h = let z : 0 + m ≡ m = omega arith in rw z at (nth_cells c s (n - (i + 1)) (i + 1) at 0 m h)

-- column m
pub nth_cols : (c : List ℕ) (k i m : ℕ) → m < columns_from c k i → nth (cols_from c k i) m ≡ done (column_at c (i + m))
unfolding cols_from columns_from nth
nth_cols c zero i m h = absurd (omega arith)
nth_cols c (suc k) i m h = go (nth_cols c k (i + 1)) (eqb (kind_at c i) 2) m h
  where
    go : ((m : ℕ) → m < columns_from c k (i + 1) → nth (cols_from c k (i + 1)) m ≡ done (column_at c (i + 1 + m)))
        → (b : Bool) (m : ℕ) → m < cond b (1 + columns_from c k (i + 1)) 0
        → nth (cond b (column_at c i ∷ cols_from c k (i + 1)) []) m ≡ done (column_at c (i + m))
    go ih false m h = absurd (omega (arith, h))
    go ih true zero h = let z : i + zero ≡ i = omega arith in unfold nth in rw z
    go ih true (suc m) h = let z : i + 1 + m ≡ i + suc m = omega arith in unfold nth in rw (← z) (ih m (omega (arith, h)))

pub length_cols : (c : List ℕ) (k i : ℕ) → length (cols_from c k i) ≡ columns_from c k i
unfolding cols_from columns_from
length_cols c zero i = refl
length_cols c (suc k) i = go (eqb (kind_at c i) 2) (length_cols c k (i + 1))
  where
    go : (b : Bool) → length (cols_from c k (i + 1)) ≡ columns_from c k (i + 1)
        → length (cond b (column_at c i ∷ cols_from c k (i + 1)) []) ≡ cond b (1 + columns_from c k (i + 1)) 0
    go true e = omega (arith, e)
    go false e = refl
