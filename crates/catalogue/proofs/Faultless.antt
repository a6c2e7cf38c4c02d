-- What "no fault" says of a record, by its kind; and what "not used before" says.
-- Assumes nothing.
use Prim.Native.Nat.{ℕ, zero, suc, ◌+◌, ◌-◌, ◌/◌, ◌%◌, ◌<◌, ◌≤◌}
use mathlib.Core.Path.{◌≡◌, refl, sym, ◌∙◌}
use mathlib.Core.Bool.{Bool, true, false, cond, ◌&&◌, and-eq-true_iff}
use mathlib.Core.List.{List}
use native.Mathlib.Omega.{arith}
use borrow.Author.Tests.{leb-true, ltb-true, eqb-true, eqb-false, eq-eqb}
use lib.Dec.{eqb, ltb, leb}
use Rattle.word.specs.Record.{kind_at, op_at, a_at, c_at}
use Rattle.cell.specs.Types.{type_rule}
use Rattle.catalogue.specs.Fault.{named_rule, tables_before, columns_before, table_used, column_used, has_column, table_fault, column_fault, fault_by, fault_at}

pub both : (a b : Bool) → (a && b) ≡ true → (a ≡ true) × (b ≡ true)
both a b = (and-eq-true_iff a b).0

over_23 : (b : Bool) {x : ℕ} → cond b x 23 ≡ 0 → (b ≡ true) × (x ≡ 0)
over_23 true e = (refl, e)
over_23 false e = absurd (omega (arith, e))

over_24 : (b : Bool) → ◌≡◌ {A = ℕ} (cond b 24 0) 0 → b ≡ false
over_24 true e = absurd (omega (arith, e))
over_24 false e = refl

pub record TableOk (c : List ℕ) (n i : ℕ) : Type 0 where
  pub named : 1 ≤ a_at c i
  pub op : op_at c i ≤ 1
  pub few : tables_before c i < 32
  pub column : has_column c (n - (i + 1)) (i + 1) ≡ true
  pub unused : table_used c (a_at c i) i ≡ false

pub record ColumnOk (c : List ℕ) (i : ℕ) : Type 0 where
  pub named : 1 ≤ a_at c i
  pub op : op_at c i ≤ 1
  pub table : 0 < tables_before c i
  pub few : columns_before c i < 64
  pub type_ruled : type_rule (c_at c i / 256) (c_at c i % 256) ≡ true
  pub unused : column_used c (a_at c i) i ≡ false

module _ (c : List ℕ) (n i : ℕ) (z : fault_at c n i ≡ 0) where
  pub table_ok : kind_at c i ≡ 1 → TableOk c n i
  unfolding fault_by table_fault
  table_ok e =
      let y : table_fault c n i (tables_before c i) ≡ 0 = rw (eq-eqb (kind_at c i) 1 e) at z in
      let (a, x) = over_23 (named_rule (a_at c i) (op_at c i) && ltb (tables_before c i) 32) y in
      let (h, w) = over_23 (has_column c (n - (i + 1)) (i + 1)) x in
      let (m, k) = both (named_rule (a_at c i) (op_at c i)) (ltb (tables_before c i) 32) a in
      let (p, q) = both (leb 1 (a_at c i)) (leb (op_at c i) 1) m in
      record {
        named = leb-true 1 (a_at c i) p;
        op = leb-true (op_at c i) 1 q;
        few = ltb-true (tables_before c i) 32 k;
        column = h;
        unused = over_24 (table_used c (a_at c i) i) w;
      }

  pub column_ok : kind_at c i ≡ 2 → ColumnOk c i
  unfolding fault_by column_fault
  column_ok e =
      let y : column_fault c i (tables_before c i) (columns_before c i) ≡ 0 = rw e at z in
      let (a, x) = over_23 (named_rule (a_at c i) (op_at c i) && (ltb 0 (tables_before c i) && ltb (columns_before c i) 64)) y in
      let (h, w) = over_23 (type_rule (c_at c i / 256) (c_at c i % 256)) x in
      let (m, k) = both (named_rule (a_at c i) (op_at c i)) (ltb 0 (tables_before c i) && ltb (columns_before c i) 64) a in
      let (p, q) = both (leb 1 (a_at c i)) (leb (op_at c i) 1) m in
      let (t, l) = both (ltb 0 (tables_before c i)) (ltb (columns_before c i) 64) k in
      record {
        named = leb-true 1 (a_at c i) p;
        op = leb-true (op_at c i) 1 q;
        table = ltb-true 0 (tables_before c i) t;
        few = ltb-true (columns_before c i) 64 l;
        type_ruled = h;
        unused = over_24 (column_used c (a_at c i) i) w;
      }

  pub two_kinds : {G : Type 0} → (kind_at c i ≡ 1 → G) → (kind_at c i ≡ 2 → G) → G
  unfolding fault_by
  two_kinds {G} f g = go (eqb (kind_at c i) 1) (eqb (kind_at c i) 2) refl refl z
    where
      go : (a b : Bool) → eqb (kind_at c i) 1 ≡ a → eqb (kind_at c i) 2 ≡ b → cond a (table_fault c n i (tables_before c i)) (cond b (column_fault c i (tables_before c i) (columns_before c i)) 23) ≡ 0 → G
      go true b p q w = f (eqb-true (kind_at c i) 1 p)
      go false true p q w = g (eqb-true (kind_at c i) 2 q)
      go false false p q w = absurd (omega (arith, w))

-- a table's name that isn't used before i stands in no table record before i
pub unused_table : (c : List ℕ) (name i : ℕ) → table_used c name i ≡ false → (j : ℕ) → j < i → kind_at c j ≡ 1 → a_at c j ≡ name → ⊥
unfolding table_used
unused_table c name zero e j h k m = omega arith
unused_table c name (suc i) e j h k m = go (eqb j i) refl (unused_table c name i) (eqb (kind_at c i) 1 && eqb (a_at c i) name) refl e
  where
    go : (t : Bool) → eqb j i ≡ t → (table_used c name i ≡ false → (j : ℕ) → j < i → kind_at c j ≡ 1 → a_at c j ≡ name → ⊥) → (b : Bool) → (eqb (kind_at c i) 1 && eqb (a_at c i) name) ≡ b → cond b true (table_used c name i) ≡ false → ⊥
    go t p ih true q w = let g : ◌≡◌ {A = ℕ} 0 1 = cc in omega arith
    go true p ih false q w =
        let y : j ≡ i = eqb-true j i p in
        let a : eqb (kind_at c i) 1 ≡ true = eq-eqb (kind_at c i) 1 (rw y at k) in
        let b : eqb (a_at c i) name ≡ true = eq-eqb (a_at c i) name (rw y at m) in
        let d : true ≡ false = sym (rw (a, b)) ∙ q in let g : ◌≡◌ {A = ℕ} 0 1 = cc in omega arith
    go false p ih false q w = ih w j (let y : j ≡ i → ⊥ = eqb-false j i p in omega (arith, y)) k m

-- a column's name that isn't used before i stands in no column record before i with no table record between
pub unused_column : (c : List ℕ) (name i : ℕ) → column_used c name i ≡ false → (j : ℕ) → j < i → ((k : ℕ) → j < k → k < i → kind_at c k ≡ 1 → ⊥) → kind_at c j ≡ 2 → a_at c j ≡ name → ⊥
unfolding column_used
unused_column c name zero e j h f k m = omega arith
unused_column c name (suc i) e j h f k m = go (eqb j i) refl (unused_column c name i) (eqb (kind_at c i) 1) refl (eqb (kind_at c i) 2 && eqb (a_at c i) name) refl e
  where
    go : (t : Bool) → eqb j i ≡ t
        → (column_used c name i ≡ false → (j : ℕ) → j < i → ((k : ℕ) → j < k → k < i → kind_at c k ≡ 1 → ⊥) → kind_at c j ≡ 2 → a_at c j ≡ name → ⊥)
        → (a : Bool) → eqb (kind_at c i) 1 ≡ a → (b : Bool) → (eqb (kind_at c i) 2 && eqb (a_at c i) name) ≡ b → cond a false (cond b true (column_used c name i)) ≡ false → ⊥
    go true p ih true o b q w =
        let y : j ≡ i = eqb-true j i p in
        let l : kind_at c i ≡ 1 = eqb-true (kind_at c i) 1 o in
        let d : kind_at c i ≡ 2 = rw y at k in omega (arith, l, d)
    go false p ih true o b q w = f i (let y : j ≡ i → ⊥ = eqb-false j i p in omega (arith, y)) (omega arith) (eqb-true (kind_at c i) 1 o)
    go t p ih false o true q w = let g : ◌≡◌ {A = ℕ} 0 1 = cc in omega arith
    go true p ih false o false q w =
        let y : j ≡ i = eqb-true j i p in
        let a : eqb (kind_at c i) 2 ≡ true = eq-eqb (kind_at c i) 2 (rw y at k) in
        let b : eqb (a_at c i) name ≡ true = eq-eqb (a_at c i) name (rw y at m) in
        let d : true ≡ false = sym (rw (a, b)) ∙ q in let g : ◌≡◌ {A = ℕ} 0 1 = cc in omega arith
    go false p ih false o false q w = ih w j (let y : j ≡ i → ⊥ = eqb-false j i p in omega (arith, y)) (λ l u v. f l u (omega arith)) k m
