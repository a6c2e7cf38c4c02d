-- What a record says, taken apart: each kind with the test that its fields passed, and the ranges of the fields of an accepted node.
-- Assumes nothing.
use Prim.Native.Nat.{ℕ, ◌/◌, ◌%◌, ◌≤◌}
use mathlib.Core.Path.{◌≡◌, refl, sym, ◌∙◌}
use mathlib.Core.Bool.{Bool, true, false, cond, ◌&&◌}
use mathlib.Core.List.{List}
use native.Mathlib.Nat.{le_antisymm}
use borrow.Author.Tests.{eqb-true, eqb-false, leb-true}
use lib.Dec.{eqb, leb}
use Rattle.word.specs.Bytes.{within}
use Rattle.word.specs.Record.{Record, a_at, b_at, rec_at}
use Rattle.cell.specs.Types.{digits_rule}
use Rattle.cell.specs.Values.{digits}
use Rattle.cell.specs.declared.Type.TheVariants as T
use Rattle.cell.specs.declared.Value.TheVariants as X
use Rattle.view.specs.Record.{when, bare, op_only, a_only, counts, value_in, const_of, node_of, node_at}
use Rattle.view.specs.declared.Node.{Node}
use Rattle.view.specs.declared.Fold.{Fold}
use Rattle.view.specs.declared.Fold.TheVariants as fold
use Rattle.view.specs.declared.Pick.{Pick}
use Rattle.view.specs.declared.Pick.TheVariants as pick
use Rattle.view.specs.declared.Node.TheVariants.{Const, Binop, Not, If, Exists, Single, Table, Select, Col, Classof, Let, Bad}
use Rattle.view.proofs.Laws.{above, and_left, and_right}

-- a node that a record says, with its kind and the test of its fields
pub data Says (r : Record) : Node → Type 0 where
  says_null : r.kind ≡ 1 → bare r ≡ true → Says r (Const T.Null X.Null)
  says_truth : r.kind ≡ 2 → (leb r.op 1 && op_only r) ≡ true → Says r (Const T.Boolean (X.Truth (eqb r.op 1)))
  says_fixed : r.kind ≡ 3 → (eqb r.a 0 && (digits_rule (r.op / 16) (r.op % 16) && digits (r.op / 16) (value_in r))) ≡ true
      → Says r (Const (T.Fixed (r.op / 16) (r.op % 16)) (X.Fixed (r.op % 16) (value_in r)))
  says_time : r.kind ≡ 4 → eqb r.a 0 ≡ true → Says r (Const (T.Time r.op) (X.Time (value_in r)))
  says_interval : r.kind ≡ 5 → eqb r.a 0 ≡ true → Says r (Const (T.Interval r.op) (X.Interval (value_in r)))
  says_class : r.kind ≡ 6 → a_only r ≡ true → Says r (Const T.Class (X.Class r.a))
  says_binop : r.kind ≡ 7 → (within 1 12 r.op && op_only r) ≡ true → Says r (Binop r.op)
  says_not : r.kind ≡ 8 → bare r ≡ true → Says r Not
  says_if : r.kind ≡ 9 → bare r ≡ true → Says r If
  says_exists : r.kind ≡ 10 → (within 1 4 r.a && a_only r) ≡ true → Says r (Exists r.a fold.Any)
  says_single : r.kind ≡ 11 → (within 1 4 r.a && a_only r) ≡ true → Says r (Single r.a pick.Only)
  says_table : r.kind ≡ 12 → (leb 1 r.a && a_only r) ≡ true → Says r (Table r.a)
  says_select : r.kind ≡ 13 → ((within 1 4 r.a && within 1 32 r.b) && (eqb r.op 0 && eqb r.c 0)) ≡ true → Says r (Select r.a r.b)
  says_col : r.kind ≡ 14 → (leb 1 r.a && (eqb r.op 0 && eqb r.c 0)) ≡ true → Says r (Col r.a r.b)
  says_classof : r.kind ≡ 15 → (leb 1 r.a && (eqb r.op 0 && eqb r.c 0)) ≡ true → Says r (Classof r.a r.b)
  says_let : r.kind ≡ 16 → (leb 1 r.a && a_only r) ≡ true → Says r (Let r.a)
  says_count : r.kind ≡ 28 → (within 1 4 r.a && counts r) ≡ true → Says r (Exists r.a (fold.Count (r.op / 16)))
  says_greatest : r.kind ≡ 29 → (within 1 4 r.a && a_only r) ≡ true → Says r (Single r.a pick.Greatest)
  says_least : r.kind ≡ 30 → (within 1 4 r.a && a_only r) ≡ true → Says r (Single r.a pick.Least)
  says_bad : Says r Bad

six : (k : ℕ) → within 1 6 k ≡ true → (k ≡ 1 → ⊥) → (k ≡ 2 → ⊥) → (k ≡ 3 → ⊥) → (k ≡ 4 → ⊥) → (k ≡ 5 → ⊥) → k ≡ 6
six k e a b c d f =
    let low = above 2 k (above 1 k (leb-true 1 k (and_left (leb 1 k) (leb k 6) e)) a) b in
    le_antisymm (leb-true k 6 (and_right (leb 1 k) (leb k 6) e)) (above 5 k (above 4 k (above 3 k low c) d) f)

module _ (r : Record) where
  is : (k : ℕ) {x y : Node} → (r.kind ≡ k → Says r x) → ((r.kind ≡ k → ⊥) → Says r y) → Says r (cond (eqb r.kind k) x y)
  is k {x} {y} f g = go (eqb r.kind k) refl
    where
      go : (b : Bool) → eqb r.kind k ≡ b → Says r (cond b x y)
      go true e = f (eqb-true r.kind k e)
      go false e = g (eqb-false r.kind k e)

  either : (b : Bool) {x y : Node} → (b ≡ true → Says r x) → Says r y → Says r (cond b x y)
  either true f g = f refl
  either false f g = g

  kept : (b : Bool) {x : Node} → (b ≡ true → Says r x) → Says r (when b x)
  kept true f = f refl
  kept false f = says_bad

  says_const : within 1 6 r.kind ≡ true → Says r (const_of r)
  unfolding const_of
  says_const w =
      is 1 (λ k. kept _ (says_null k)) (λ a.
      is 2 (λ k. kept _ (says_truth k)) (λ b.
      is 3 (λ k. kept _ (says_fixed k)) (λ c.
      is 4 (λ k. kept _ (says_time k)) (λ d.
      is 5 (λ k. kept _ (says_interval k)) (λ e.
      kept _ (says_class (six r.kind w a b c d e)))))))

  -- WHAT A RECORD SAYS
  pub says : Says r (node_of r)
  unfolding node_of
  says =
      either (within 1 6 r.kind) says_const (
      is 7 (λ k. kept _ (says_binop k)) (λ z.
      is 8 (λ k. kept _ (says_not k)) (λ z.
      is 9 (λ k. kept _ (says_if k)) (λ z.
      is 10 (λ k. kept _ (says_exists k)) (λ z.
      is 11 (λ k. kept _ (says_single k)) (λ z.
      is 12 (λ k. kept _ (says_table k)) (λ z.
      is 13 (λ k. kept _ (says_select k)) (λ z.
      is 14 (λ k. kept _ (says_col k)) (λ z.
      is 15 (λ k. kept _ (says_classof k)) (λ z.
      is 16 (λ k. kept _ (says_let k)) (λ z.
      is 28 (λ k. kept _ (says_count k)) (λ z.
      is 29 (λ k. kept _ (says_greatest k)) (λ z.
      is 30 (λ k. kept _ (says_least k)) (λ z.
      says_bad))))))))))))))

  pub says_node : {x : Node} → node_of r ≡ x → Says r x
  says_node e = rw e at says

-- the ranges of the fields
inside : (lo hi x : ℕ) (b : Bool) → (within lo hi x && b) ≡ true → (lo ≤ x) × (x ≤ hi)
inside lo hi x b e =
    let h = and_left (within lo hi x) b e in
    (leb-true lo x (and_left (leb lo x) (leb x hi) h), leb-true x hi (and_right (leb lo x) (leb x hi) h))

some : (x : ℕ) (b : Bool) → (leb 1 x && b) ≡ true → 1 ≤ x
some x b e = leb-true 1 x (and_left (leb 1 x) b e)

binop_says : (r : Record) {op : ℕ} → Says r (Binop op) → (1 ≤ op) × (op ≤ 12)
binop_says r (says_binop k e) = inside 1 12 r.op (op_only r) e

exists_says : (r : Record) {a : ℕ} {q : Fold} → Says r (Exists a q) → (1 ≤ a) × (a ≤ 4)
exists_says r (says_exists k e) = inside 1 4 r.a (a_only r) e
exists_says r (says_count k e) = inside 1 4 r.a (counts r) e

digits_says : (r : Record) {a p : ℕ} → Says r (Exists a (fold.Count p)) → (1 ≤ p) × (p ≤ 9)
digits_says r (says_count k e) =
    inside 1 9 (r.op / 16) (eqb (r.op % 16) 0 && (eqb r.b 0 && eqb r.c 0)) (and_right (within 1 4 r.a) (counts r) e)

single_says : (r : Record) {a : ℕ} {q : Pick} → Says r (Single a q) → (1 ≤ a) × (a ≤ 4)
single_says r (says_single k e) = inside 1 4 r.a (a_only r) e
single_says r (says_greatest k e) = inside 1 4 r.a (a_only r) e
single_says r (says_least k e) = inside 1 4 r.a (a_only r) e

table_says : (r : Record) {name : ℕ} → Says r (Table name) → (1 ≤ name) × (name ≡ r.a)
table_says r (says_table k e) = (some r.a (a_only r) e, refl)

select_says : (r : Record) {a b : ℕ} → Says r (Select a b) → (1 ≤ a) × (a ≤ 4) × (1 ≤ b) × (b ≤ 32)
select_says r (says_select k e) =
    let h = and_left (within 1 4 r.a && within 1 32 r.b) (eqb r.op 0 && eqb r.c 0) e in
    let i = inside 1 4 r.a (within 1 32 r.b) h in
    let j = and_right (within 1 4 r.a) (within 1 32 r.b) h in
    (i.0, i.1, leb-true 1 r.b (and_left (leb 1 r.b) (leb r.b 32) j), leb-true r.b 32 (and_right (leb 1 r.b) (leb r.b 32) j))

col_says : (r : Record) {name q : ℕ} → Says r (Col name q) → (1 ≤ name) × (name ≡ r.a) × (q ≡ r.b)
col_says r (says_col k e) = (some r.a (eqb r.op 0 && eqb r.c 0) e, refl, refl)

classof_says : (r : Record) {name q : ℕ} → Says r (Classof name q) → (1 ≤ name) × (name ≡ r.a) × (q ≡ r.b)
classof_says r (says_classof k e) = (some r.a (eqb r.op 0 && eqb r.c 0) e, refl, refl)

let_says : (r : Record) {name : ℕ} → Says r (Let name) → (1 ≤ name) × (name ≡ r.a)
let_says r (says_let k e) = (some r.a (a_only r) e, refl)

-- the same of record i of a view, as a pass holds it: the node was taken from there, and is of this kind
module _ (v : List ℕ) (i : ℕ) {nd : Node} (e : nd ≡ node_at v i) where
  said : {x : Node} → nd ≡ x → Says (rec_at v i) x
  unfolding node_at
  said f = says_node (rec_at v i) (sym e ∙ f)

  pub binop_op : {op : ℕ} → nd ≡ Binop op → (1 ≤ op) × (op ≤ 12)
  binop_op f = binop_says (rec_at v i) (said f)

  pub exists_few : {a : ℕ} {q : Fold} → nd ≡ Exists a q → (1 ≤ a) × (a ≤ 4)
  exists_few f = exists_says (rec_at v i) (said f)

  pub exists_digits : {a p : ℕ} → nd ≡ Exists a (fold.Count p) → (1 ≤ p) × (p ≤ 9)
  exists_digits f = digits_says (rec_at v i) (said f)

  pub single_few : {a : ℕ} {q : Pick} → nd ≡ Single a q → (1 ≤ a) × (a ≤ 4)
  single_few f = single_says (rec_at v i) (said f)

  pub table_name : {name : ℕ} → nd ≡ Table name → (1 ≤ name) × (name ≡ a_at v i)
  unfolding rec_at
  table_name f = table_says (rec_at v i) (said f)

  pub select_few : {a b : ℕ} → nd ≡ Select a b → (1 ≤ a) × (a ≤ 4) × (1 ≤ b) × (b ≤ 32)
  select_few f = select_says (rec_at v i) (said f)

  pub col_name : {name q : ℕ} → nd ≡ Col name q → (1 ≤ name) × (name ≡ a_at v i) × (q ≡ b_at v i)
  unfolding rec_at
  col_name f = col_says (rec_at v i) (said f)

  pub classof_name : {name q : ℕ} → nd ≡ Classof name q → (1 ≤ name) × (name ≡ a_at v i) × (q ≡ b_at v i)
  unfolding rec_at
  classof_name f = classof_says (rec_at v i) (said f)

  pub let_name : {name : ℕ} → nd ≡ Let name → (1 ≤ name) × (name ≡ a_at v i)
  unfolding rec_at
  let_name f = let_says (rec_at v i) (said f)
