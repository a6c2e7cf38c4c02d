-- What the check of a view gives of each of its values: constants of their types, 1 to 4 tables in each block, and how many scopes stand open at once.
-- Assumes nothing.
use Prim.Native.Nat.{ℕ, zero, suc, ◌+◌, ◌-◌, ◌<◌, ◌≤◌, max}
use mathlib.Core.Path.{◌≡◌, refl, sym, ap, subst, ◌∙◌}
use mathlib.Core.List.{List, [], ◌∷◌}
use native.Mathlib.Omega.{arith}
use lib.Dec.{eqb}
use lib.ListN.{length}
use Rattle.word.specs.Header.{count_at}
use Rattle.word.specs.Record.{rec_at}
use Rattle.word.specs.Record.{Record}
use Rattle.cell.specs.Types.{kind_of}
use Rattle.cell.specs.Values.{is_null}
use Rattle.cell.specs.declared.Type.{«Type» as Ty}
use Rattle.cell.specs.declared.Value.{Value}
use Rattle.store.specs.Rows.{All}
use Rattle.view.specs.Ast.{Exp, Block, Parsed, ok}
use Rattle.view.specs.Ast as ast
use Rattle.view.specs.Record.{node_at}
use Rattle.view.specs.Parse.{many, names_at, parse_value, parse_view}
use Rattle.view.specs.declared.Node.TheVariants.{Const}
use Rattle.view.proofs.Constants.{typed_at}
use Rattle.view.proofs.Induction.{parse_ind}
use Rattle.view.proofs.Read.{was_read, none_ok, more_ok}
use Rattle.view.proofs.Says.{Says, says_null, says_truth, says_fixed, says_time, says_interval, says_class, says_node, exists_few, single_few}
use Rattle.view.proofs.Whole.{view_ok}
use Rattle.packed.specs.Constants.{Constant}
use Rattle.reading.specs.Demands.{Bytes}

-- constants are constants of their types, and every block has 1 to 4 tables
unfoldable pub Formed : Exp → Type 0
Formed (ast.Exp.const at t v) = Constant t v
Formed (ast.Exp.binop at op l r) = Formed l × Formed r
Formed (ast.Exp.neg at e) = Formed e
Formed (ast.Exp.if at c l r) = Formed c × Formed l × Formed r
Formed (ast.Exp.exists at q names w) = (1 ≤ length names) × (length names ≤ 4) × Formed w
Formed (ast.Exp.single at q names w v) = (1 ≤ length names) × (length names ≤ 4) × Formed w × Formed v
Formed (ast.Exp.col at name q) = Unit {0}
Formed (ast.Exp.classof at name q) = Unit {0}
Formed (ast.Exp.letin at name v b) = Formed v × Formed b

-- how many scopes a value opens, one inside the other: blocks and LET bodies open one
unfoldable pub nest : Exp → ℕ
nest (ast.Exp.const at t v) = 0
nest (ast.Exp.binop at op l r) = max (nest l) (nest r)
nest (ast.Exp.neg at e) = nest e
nest (ast.Exp.if at c l r) = max (nest c) (max (nest l) (nest r))
nest (ast.Exp.exists at q names w) = 1 + nest w
nest (ast.Exp.single at q names w v) = 1 + max (nest w) (nest v)
nest (ast.Exp.col at name q) = 0
nest (ast.Exp.classof at name q) = 0
nest (ast.Exp.letin at name v b) = max (nest v) (1 + nest b)

-- ---- a value

-- a constant is null only where its type is
null_says : (r : Record) {t : Ty} {x : Value} → Says r (Const t x) → is_null x ≡ eqb (kind_of t) 0
unfolding is_null kind_of
null_says r (says_null k e) = refl
null_says r (says_truth k e) = refl
null_says r (says_fixed k e) = refl
null_says r (says_time k e) = refl
null_says r (says_interval k e) = refl
null_says r (says_class k e) = refl

null_at : (v : List ℕ) (at : ℕ) (t : Ty) (x : Value) → node_at v at ≡ Const t x → is_null x ≡ eqb (kind_of t) 0
unfolding node_at
null_at v at t x e = null_says (rec_at v at) (says_node (rec_at v at) e)

names_length : (v : List ℕ) (at count : ℕ) → length (names_at v at count) ≡ count
unfolding names_at
names_length v at zero = refl
names_length v at (suc count) = ap suc (names_length v (at + 1) count)

pub value_formed : (v : List ℕ) → Bytes v → (n d at : ℕ) {e : Exp} {k : ℕ} → parse_value v n d at ≡ ok e k → Formed e
unfolding Formed
value_formed v h n =
    parse_ind v n (λ d at e k. Formed e)
    (λ d at t x z l g. record { typed = typed_at v at (sym g) refl h; null_is = null_at v at t x g })
    (λ d at name q z l g. tt)
    (λ d at name q z l g. tt)
    (λ d at e k z l g p. p)
    (λ d at op a b m k z l g p q. (p, q))
    (λ d at name a b m k z l g p q. (p, q))
    (λ d at c a b m j k z l g p q r. (p, q, r))
    (λ d at a o w k z l g f p.
    let s = exists_few v at (sym g) refl in
    rw (names_length v (at + 1) a) (s.0, s.1, p))
    (λ d at a o w e m k z l g f p q.
    let s = single_few v at (sym g) refl in
    rw (names_length v (at + 1) a) (s.0, s.1, p, q))

-- a value that was read with d levels left opens fewer than d scopes
pub value_nest : (v : List ℕ) (n d at : ℕ) {e : Exp} {k : ℕ} → parse_value v n d at ≡ ok e k → nest e < d
unfolding nest
value_nest v n =
    parse_ind v n (λ d at e k. nest e < d)
    (λ d at t x z l g. z)
    (λ d at name q z l g. z)
    (λ d at name q z l g. z)
    (λ d at e k z l g p. omega arith)
    (λ d at op a b m k z l g p q. omega arith)
    (λ d at name a b m k z l g p q. omega arith)
    (λ d at c a b m j k z l g p q r. omega arith)
    (λ d at a o w k z l g f p. omega arith)
    (λ d at a o w e m k z l g f p q. omega arith)

-- ---- a view

-- what holds of every value holds of several in a row
several : (P : Exp → Type 0) (v : List ℕ) (n d : ℕ) → ((at : ℕ) (e : Exp) (k : ℕ) → parse_value v n d at ≡ ok e k → P e) →
    (c at : ℕ) {es : List Exp} {k : ℕ} → many (parse_value v n d) c at ≡ ok es k → All P es
several P v n d f zero at {es} {k} h =
    let z : ok [] at ≡ ok es k = sym (none_ok (parse_value v n d) at) ∙ h in
    let p : es ≡ [] = cc in
    rw p tt
several P v n d f (suc c) at {es} {k} h =
    let m = more_ok (parse_value v n d) (suc c) at (omega arith) (was_read h) in
    let z : suc c - 1 ≡ c = omega arith in
    let r = several P v n d f c m.mid (ap (λ (i : ℕ). many (parse_value v n d) i m.mid) (sym z) ∙ m.rest) in
    let q : ok (m.head ∷ m.tail) m.end ≡ ok es k = sym m.whole ∙ h in
    let p : es ≡ m.head ∷ m.tail = cc in
    rw p (f at m.head m.mid m.first, r)

-- an accepted view: 1 to 4 tables; each value is formed, and opens at most 14 scopes
pub record ViewFormed (b : Block) : Type 0 where
  pub some : 1 ≤ length b.tables
  pub few : length b.tables ≤ 4
  pub test : Formed b.test
  pub test_nest : nest b.test < 15
  pub values : All Formed b.values
  pub values_nest : All (λ e. nest e < 15) b.values

pub view_formed : (v : List ℕ) (b : Block) (records : ℕ) → Bytes v → parse_view v ≡ ok b records → ViewFormed b
view_formed v b records h e =
    let (t, m) = view_ok v e in
    let w = t.whole in
    let p : t.block ≡ b = cc in
    let l : length t.block.tables ≡ t.tables = ap length t.parts.names ∙ names_length v 1 t.tables in
    subst ViewFormed p (record {
      some = rw l t.some_tables;
      few = rw l t.few_tables;
      test = value_formed v h (count_at v) 15 _ t.parts.first;
      test_nest = value_nest v (count_at v) 15 _ t.parts.first;
      values = several Formed v (count_at v) 15 (λ at a i g. value_formed v h (count_at v) 15 at g) t.values _ t.parts.rest;
      values_nest = several (λ e. nest e < 15) v (count_at v) 15 (λ at a i g. value_nest v (count_at v) 15 at g) t.values _ t.parts.rest;
    })
