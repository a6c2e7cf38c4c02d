-- An accepted store over an accepted catalogue: each class keeps what is known of it, each value is null or of its column's type.
-- Assumes nothing.
use Prim.Native.Nat.{ℕ, zero, suc, ◌+◌, ◌-◌, ◌/◌, ◌%◌, ◌^◌, ◌<◌, ◌≤◌}
use mathlib.Core.Path.{◌≡◌, refl, sym, ◌∙◌}
use mathlib.Core.Bool.{Bool, true, false, cond, ◌&&◌, So, and-eq-true_iff}
use mathlib.Core.List.{List, [], ◌∷◌}
use native.Mathlib.Omega.{arith}
use native.Mathlib.Nat.{pow-le-pow_right}
use borrow.Author.Tests.{leb-true, ltb-true, ltb-false, lt-ltb, eqb-true, eqb-false}
use lib.ListN.{get_or}
use lib.Dec.{eqb, ltb, leb}
use lib.IntN.{pos, negsuc}
use Rattle.word.specs.Bytes.{u16_at, u32_at, signed32, bits32, i32_at}
use Rattle.word.specs.Header.{count_at}
use Rattle.word.specs.Record.{kind_at, op_at, b_at, c_at}
use Rattle.class.specs.Info.{info_by, info_test}
use Rattle.class.proofs.Infos.{ok_of}
use Rattle.cell.specs.Types.{digits_rule, type_rule, type_by}
use Rattle.cell.specs.Values.{digits, word32, HasTy, ok_null, ok_truth, ok_fixed, ok_time, ok_interval, ok_class}
use Rattle.cell.proofs.Words.{by_boolean, by_fixed, by_time, by_interval, by_class, by_none, rule_fixed}
use Rattle.cell.specs.declared.Type.TheVariants as T
use Rattle.cell.specs.declared.Value.TheVariants.{Null}
use Rattle.catalogue.specs.Fault as fault
use Rattle.catalogue.specs.Tables.{column_at, cols_from, table_at, tables_from, catalogue_of}
use Rattle.catalogue.proofs.Meaning as catalogue
use Rattle.catalogue.proofs.Faultless.{column_ok}
use Rattle.store.specs.Layout.{class_rule, magnitude, value_rule, cell_rule, cell_place, row_size, place_after, cells_fault, row_fault, rows_fault, table_fault, fault_from, check_of}
use Rattle.store.specs.Rows.{All, All2, CellOk, RowOk, StoreOk, value_of, cell_at, cells_from, row_at, rows_from, table_rows, tables_rows, store_of}
use Rattle.word.specs.Refusal.{fine}
use Rattle.store.proofs.Meaning.{after_more, accepted}
use Rattle.store.proofs.Faultless.{first_none, class_clean, place_some}

-- ---- a value

digits_some : (p s : ℕ) → digits_rule p s ≡ true → 1 ≤ p
unfolding digits_rule
digits_some p s e = leb-true 1 p ((and-eq-true_iff (leb 1 p) (leb p 9)).0 ((and-eq-true_iff (leb 1 p && leb p 9) (leb s 4 && leb s p)).0 e).0).0

-- 32 bits read as signed are of 32 signed bits, and keep p digits where their magnitude does
module _ (v : ℕ) where
  signed_word : So (word32 (signed32 v))
  unfolding signed32
  signed_word = go (ltb v 2147483648) refl
    where
      go : (b : Bool) → ltb v 2147483648 ≡ b → So (word32 (cond b (pos v) (negsuc (4294967295 - v))))
      go true e = e
      go false e = lt-ltb (4294967295 - v) 2147483648 (omega (arith, ltb-false v 2147483648 e))

  signed_digits : (p : ℕ) → 1 ≤ p → magnitude v < 10 ^ p → So (digits p (signed32 v))
  unfolding signed32 magnitude
  signed_digits p h l = go (ltb v 2147483648) refl l
    where
      ten_least : 10 ^ 1 ≤ 10 ^ p
      ten_least = pow-le-pow_right (omega arith) h

      go : (b : Bool) → ltb v 2147483648 ≡ b → cond b v (4294967296 - v) < 10 ^ p → So (digits p (cond b (pos v) (negsuc (4294967295 - v))))
      go true e l = lt-ltb v (10 ^ p) l
      go false e l = lt-ltb (suc (4294967295 - v)) (10 ^ p) (omega (arith, ten_least, l))

  fixed_ok : (p r : ℕ) → digits_rule p r ≡ true → magnitude v < 10 ^ p → HasTy (T.Fixed p r) (value_of (T.Fixed p r) (signed32 v))
  unfolding value_of
  fixed_ok p r g l = ok_fixed ((and-eq-true_iff (digits_rule p r) (digits p (signed32 v))).1 (g, signed_digits p (digits_some p r g) l))

module _ (high low v : ℕ) where
  -- a value that isn't null is of the type that the word says
  typed : type_rule high low ≡ true → (high ≡ 2 → magnitude v < 10 ^ (low / 16)) → HasTy (type_by high low) (value_of (type_by high low) (signed32 v))
  typed t d = go (eqb high 1) (eqb high 2) (eqb high 3) (eqb high 4) (eqb high 5) refl refl refl refl refl
    where
      go : (a b c e f : Bool) → eqb high 1 ≡ a → eqb high 2 ≡ b → eqb high 3 ≡ c → eqb high 4 ≡ e → eqb high 5 ≡ f → HasTy (type_by high low) (value_of (type_by high low) (signed32 v))
      go true b c e f p q r s u = rw (by_boolean high low (eqb-true high 1 p)) (unfold value_of in ok_truth)
      go false true c e f p q r s u =
          let h : high ≡ 2 = eqb-true high 2 q in
          let g : digits_rule (low / 16) (low % 16) ≡ true = sym (rule_fixed high low h) ∙ t in
          rw (by_fixed high low h) (fixed_ok v (low / 16) (low % 16) g (d h))
      go false false true e f p q r s u = rw (by_time high low (eqb-true high 3 r)) (unfold value_of in ok_time (signed_word v))
      go false false false true f p q r s u = rw (by_interval high low (eqb-true high 4 s)) (unfold value_of in ok_interval (signed_word v))
      go false false false false true p q r s u = rw (by_class high low (eqb-true high 5 u)) (unfold value_of in ok_class (lt-ltb (bits32 (signed32 v) % 65536) 65536 (omega arith)))
      go false false false false false p q r s u = rw (by_none high low (eqb-false high 1 p) (eqb-false high 2 q) (eqb-false high 3 r) (eqb-false high 4 s) (eqb-false high 5 u)) (unfold value_of in ok_null)

  pub value_ok : (mark : ℕ) → type_rule high low ≡ true → value_rule high low mark v ≡ true → HasTy (type_by high low) (cond (eqb mark 1) Null (value_of (type_by high low) (signed32 v)))
  unfolding value_rule
  value_ok mark t e = go (eqb mark 1) e
    where
      go : (b : Bool) → cond b (eqb v 0) (cond (eqb high 1) (leb v 1) (cond (eqb high 2) (ltb (magnitude v) (10 ^ (low / 16))) (cond (eqb high 5) (leb v 65535) true))) ≡ true → HasTy (type_by high low) (cond b Null (value_of (type_by high low) (signed32 v)))
      go true w = ok_null
      go false w = typed t (λ h. ltb-true (magnitude v) (10 ^ (low / 16)) (rw h at w))

-- ---- cells and rows

module _ (c s : List ℕ) where
  pub cell_ok : (i at : ℕ) → type_rule (c_at c i / 256) (c_at c i % 256) ≡ true → cell_rule c i s at ≡ true → CellOk (column_at c i) (cell_at s (type_by (c_at c i / 256) (c_at c i % 256)) at)
  unfolding cell_rule class_rule column_at cell_at i32_at
  cell_ok i at t e =
      let (a, b) = (and-eq-true_iff (leb (get_or s at 0) 1 && eqb (get_or s (at + 1) 0) 0) (info_test (info_by (op_at c i) (b_at c i)) (u16_at s (at + 2)) && value_rule (c_at c i / 256) (c_at c i % 256) (get_or s at 0) (u32_at s (at + 4)))).0 e in
      let (k, v) = (and-eq-true_iff (info_test (info_by (op_at c i) (b_at c i)) (u16_at s (at + 2))) (value_rule (c_at c i / 256) (c_at c i % 256) (get_or s at 0) (u32_at s (at + 4)))).0 b in
      (value_ok (c_at c i / 256) (c_at c i % 256) (u32_at s (at + 4)) (get_or s at 0) t v, ok_of (info_by (op_at c i) (b_at c i)) (u16_at s (at + 2)) k)

  -- the column records among the k from i on keep the rule of types
  abbrev Typed : ℕ → ℕ → Type 0
  Typed k i = (m : ℕ) → i ≤ m → m < i + k → kind_at c m ≡ 2 → type_rule (c_at c m / 256) (c_at c m % 256) ≡ true

  cells_ok : (k i at j : ℕ) → Typed k i → cells_fault c s k i at j ≡ 0 → All2 CellOk (cols_from c k i) (cells_from c s k i at j)
  unfolding cells_fault cols_from cells_from
  cells_ok zero i at j t e = tt
  cells_ok (suc k) i at j t e = go (cells_ok k (i + 1) at (j + 1) (λ m a b. t m (omega arith) (omega arith))) (eqb (kind_at c i) 2) (cell_rule c i s (cell_place at j)) refl refl e
    where
      go : (cells_fault c s k (i + 1) at (j + 1) ≡ 0 → All2 CellOk (cols_from c k (i + 1)) (cells_from c s k (i + 1) at (j + 1)))
          → (a b : Bool) → eqb (kind_at c i) 2 ≡ a → cell_rule c i s (cell_place at j) ≡ b
          → cond a (cond b (cells_fault c s k (i + 1) at (j + 1)) (cell_place at j)) 0 ≡ 0
          → All2 CellOk (cond a (column_at c i ∷ cols_from c k (i + 1)) []) (cond a (cell_at s (type_by (c_at c i / 256) (c_at c i % 256)) (cell_place at j) ∷ cells_from c s k (i + 1) at (j + 1)) [])
      go ih false b p q w = tt
      go ih true false p q w = absurd (place_some at j w)
      go ih true true p q w = (cell_ok i (cell_place at j) (t i (omega arith) (omega arith) (eqb-true (kind_at c i) 2 p)) q, ih w)

module _ (c : List ℕ) (n : ℕ) (s : List ℕ) where
  row_ok : (i at : ℕ) → 0 < at → Typed c s (n - (i + 1)) (i + 1) → row_fault c n s i at ≡ 0 → RowOk (table_at c n i) (row_at c n s i at)
  unfolding table_at row_at class_rule
  row_ok i at h t e =
      let (k, f) = class_clean c n s i at h e in
      (ok_of (info_by (op_at c i) (b_at c i)) (u16_at s at) k, cells_ok c s (n - (i + 1)) (i + 1) at 0 t f)

  rows_ok : (i rows at size : ℕ) → 0 < at → Typed c s (n - (i + 1)) (i + 1) → rows_fault c n s i rows at size ≡ 0 → All (RowOk (table_at c n i)) (rows_from c n s i rows at size)
  unfolding rows_fault rows_from
  rows_ok i zero at size h t e = tt
  rows_ok i (suc rows) at size h t e =
      let (f, g) = first_none _ _ e in (row_ok i at h t f, rows_ok i rows (at + size) size (omega arith) t g)

  after_some : (i at : ℕ) → 0 < at → 0 < place_after c n s i at
  after_some i at h = omega (arith, after_more c n s i at)

  tables_ok : (k i at : ℕ) → 0 < at → i + k ≤ n → Typed c s n 0 → fault_from c n s k i at ≡ 0 → StoreOk (tables_from c n k i) (tables_rows c n s k i at)
  unfolding fault_from tables_from tables_rows
  tables_ok zero i at h l t e = tt
  tables_ok (suc k) i at h l t e =
      let (f, g) = first_none _ _ e in
      go (tables_ok k (i + 1) (place_after c n s i at) (after_some i at h) (omega arith) t g) (eqb (kind_at c i) 1) (unfold table_fault in f)
    where
      go : StoreOk (tables_from c n k (i + 1)) (tables_rows c n s k (i + 1) (place_after c n s i at))
          → (b : Bool) → cond b (rows_fault c n s i (u16_at s at) (at + 2) (row_size c n i)) 0 ≡ 0
          → StoreOk (cond b (table_at c n i ∷ tables_from c n k (i + 1)) (tables_from c n k (i + 1))) (cond b (table_rows c n s i at ∷ tables_rows c n s k (i + 1) (place_after c n s i at)) (tables_rows c n s k (i + 1) (place_after c n s i at)))
      go ih true w = (unfold table_rows in rows_ok i (u16_at s at) (at + 2) (row_size c n i) (omega arith) (λ m a b. t m (omega arith) (omega arith)) w, ih)
      go ih false w = ih

-- THE LAW: what an accepted store says over its catalogue
pub store_ok : (c s : List ℕ) (t : ℕ) → fault.check_of c ≡ fine t → check_of c (count_at c) t s ≡ fine tt → StoreOk (catalogue_of c) (store_of c s)
unfolding catalogue_of store_of
store_ok c s t e f =
    let a = catalogue.accepted c t e in
    tables_ok c (count_at c) s (count_at c) 0 8 (omega arith) (omega arith)
    (λ m x y k. (column_ok c (count_at c) m (a.no_fault m x (omega arith)) k).type_ruled)
    (accepted c (count_at c) t s f).no_fault
