-- What "no fault" says of a store: every row class and every cell keeps its rule.
-- Assumes nothing.
use Prim.Native.Nat.{ℕ, zero, suc, ◌+◌, ◌-◌, ◌*◌, ◌<◌}
use mathlib.Core.Path.{◌≡◌, refl}
use mathlib.Core.Bool.{Bool, true, false, cond}
use mathlib.Core.List.{List}
use native.Mathlib.Omega.{arith}
use native.Mathlib.Nat.{suc-mul}
use borrow.Author.Tests.{eqb-true, eqb-false, eq-eqb}
use lib.Dec.{eqb}
use Rattle.word.specs.Bytes.{u16_at}
use Rattle.word.specs.Record.{kind_at}
use Rattle.store.specs.Layout.{class_rule, cell_rule, cell_place, columns_from, row_size, place_of, first, cells_fault, row_fault, rows_fault, table_fault, fault_from}

pub first_none : (a b : ℕ) → first a b ≡ 0 → (a ≡ 0) × (b ≡ 0)
unfolding first
first_none a b e = go (eqb a 0) refl e
  where
    go : (t : Bool) → eqb a 0 ≡ t → cond t b a ≡ 0 → (a ≡ 0) × (b ≡ 0)
    go true q w = (eqb-true a 0 q, w)
    go false q w = absurd (eqb-false a 0 q w)

pub place_some : (at j : ℕ) → cell_place at j ≡ 0 → ⊥
unfolding cell_place
place_some at j e = omega arith

module _ (c : List ℕ) (n : ℕ) (s : List ℕ) where
  -- each table
  tables_clean : (k i : ℕ) → fault_from c n s k i (place_of c n s i) ≡ 0 → (m : ℕ) → m < k → table_fault c n s (i + m) (place_of c n s (i + m)) ≡ 0
  unfolding fault_from place_of
  tables_clean zero i e m h = absurd (omega arith)
  tables_clean (suc k) i e zero h = let z : i + zero ≡ i = omega arith in rw z (first_none _ _ e).0
  tables_clean (suc k) i e (suc m) h =
      let z : suc i + m ≡ i + suc m = omega arith in
      let y : i + 1 ≡ suc i = omega arith in
      rw (← z) (tables_clean k (suc i) (rw y at (first_none _ _ e).1) m (omega arith))

  pub table_clean : fault_from c n s n 0 8 ≡ 0 → (i : ℕ) → i < n → kind_at c i ≡ 1 → rows_fault c n s i (u16_at s (place_of c n s i)) (place_of c n s i + 2) (row_size c n i) ≡ 0
  unfolding table_fault place_of
  table_clean e i h k =
      let z : 0 + i ≡ i = omega arith in
      let y : table_fault c n s i (place_of c n s i) ≡ 0 = rw z at (tables_clean n 0 e i h) in
      rw (eq-eqb (kind_at c i) 1 k) at y

  -- each row
  pub row_clean : (i rows at size : ℕ) → rows_fault c n s i rows at size ≡ 0 → (r : ℕ) → r < rows → row_fault c n s i (at + r * size) ≡ 0
  unfolding rows_fault
  row_clean i zero at size e r h = absurd (omega arith)
  row_clean i (suc rows) at size e zero h = let z : at + 0 * size ≡ at = omega arith in rw z (first_none _ _ e).0
  row_clean i (suc rows) at size e (suc r) h =
      let z : at + size + r * size ≡ at + suc r * size = omega (arith, suc-mul r size) in
      rw (← z) (row_clean i rows (at + size) size (first_none _ _ e).1 r (omega arith))

  -- its class, and what its cells have then
  pub class_clean : (i at : ℕ) → 0 < at → row_fault c n s i at ≡ 0 → (class_rule c i s at ≡ true) × (cells_fault c s (n - (i + 1)) (i + 1) at 0 ≡ 0)
  unfolding row_fault
  class_clean i at h e = go (class_rule c i s at) e
    where
      go : (t : Bool) → cond t (cells_fault c s (n - (i + 1)) (i + 1) at 0) at ≡ 0 → (t ≡ true) × (cells_fault c s (n - (i + 1)) (i + 1) at 0 ≡ 0)
      go true w = (refl, w)
      go false w = absurd (omega (arith, w))

  -- each cell
  pub cell_clean : (k i at j : ℕ) → cells_fault c s k i at j ≡ 0 → (m : ℕ) → m < columns_from c k i → cell_rule c (i + m) s (cell_place at (j + m)) ≡ true
  unfolding cells_fault columns_from
  cell_clean zero i at j e m l = absurd (omega arith)
  cell_clean (suc k) i at j e m l = go (cell_clean k (i + 1) at (j + 1)) (eqb (kind_at c i) 2) (cell_rule c i s (cell_place at j)) refl m e l
    where
      go : (cells_fault c s k (i + 1) at (j + 1) ≡ 0 → (m : ℕ) → m < columns_from c k (i + 1) → cell_rule c (i + 1 + m) s (cell_place at (j + 1 + m)) ≡ true) → (a b : Bool) → cell_rule c i s (cell_place at j) ≡ b → (m : ℕ) → cond a (cond b (cells_fault c s k (i + 1) at (j + 1)) (cell_place at j)) 0 ≡ 0 → m < cond a (1 + columns_from c k (i + 1)) 0 → cell_rule c (i + m) s (cell_place at (j + m)) ≡ true
      go ih false b q m w l = absurd (omega (arith, l))
      go ih true false q m w l = absurd (place_some at j w)
      go ih true true q zero w l = let z : i + zero ≡ i = omega arith in let y : j + zero ≡ j = omega arith in rw (z, y) q
      go ih true true q (suc m) w l =
          let z : i + 1 + m ≡ i + suc m = omega arith in
          let y : j + 1 + m ≡ j + suc m = omega arith in
          rw (← z, ← y) (ih w m (omega (arith, l)))
