-- What a record says, by its kind: one law for each way out of the code that decodes it, for `search nodes`.
-- Assumes nothing.
use Prim.Native.Nat.{ℕ, ◌≤◌, ◌<◌}
use mathlib.Core.Path.{◌≡◌, sym, ◌∙◌}
use mathlib.Core.Bool.{Bool, true, ◌&&◌, and-false}
use native.Mathlib.Omega.{arith}
use borrow.Author.Tests.{lt-leb, ne_eqb, leb-true}
use lib.Dec.{eqb, leb}
use Rattle.word.specs.Bytes.{within}
use Rattle.word.specs.Record.{Record}
use Rattle.cell.specs.Types.{digits_rule}
use Rattle.view.specs.Record.{when, op_only, a_only, node_of}
use Rattle.view.specs.declared.Node.{Node}
use Rattle.view.specs.declared.Node.TheVariants.{Binop, Table, Col, Classof, Let, Bad}
use Rattle.view.proofs.Laws.{and_left, and_right}

-- p is at most 9 where (p, s) is in rule
pub rule_few : (p s : ℕ) {o : Bool} → o ≡ digits_rule p s → o ≡ true → p ≤ 9
unfolding digits_rule
rule_few p s e t = leb-true p 9 (and_right (leb 1 p) (leb p 9) (and_left (leb 1 p && leb p 9) _ (sym e ∙ t)))

module _ (r : Record) where
  pub node_binop : {o : Bool} {x : Node} → r.kind ≡ 7 → o ≡ op_only r → x ≡ when (within 1 12 r.op && o) (Binop r.op) → x ≡ node_of r
  unfolding node_of
  node_binop k e f = f ∙ rw (k, e)

  pub node_table : {o : Bool} {x : Node} → r.kind ≡ 12 → o ≡ a_only r → x ≡ when (leb 1 r.a && o) (Table r.a) → x ≡ node_of r
  unfolding node_of
  node_table k e f = f ∙ rw (k, e)

  pub node_col : {x : Node} → r.kind ≡ 14 → x ≡ when (leb 1 r.a && (eqb r.op 0 && eqb r.c 0)) (Col r.a r.b) → x ≡ node_of r
  unfolding node_of
  node_col k f = f ∙ rw k

  pub node_classof : {x : Node} → r.kind ≡ 15 → x ≡ when (leb 1 r.a && (eqb r.op 0 && eqb r.c 0)) (Classof r.a r.b) → x ≡ node_of r
  unfolding node_of
  node_classof k f = f ∙ rw k

  pub node_let : {o : Bool} {x : Node} → r.kind ≡ 16 → o ≡ a_only r → x ≡ when (leb 1 r.a && o) (Let r.a) → x ≡ node_of r
  unfolding node_of
  node_let k e f = f ∙ rw (k, e)

  pub node_low : r.kind < 1 → Bad ≡ node_of r
  unfolding node_of
  node_low h = let k : r.kind ≡ 0 = omega arith in rw k

  pub node_high : 7 ≤ r.kind → (r.kind ≡ 7 → ⊥) → (r.kind ≡ 8 → ⊥) → (r.kind ≡ 9 → ⊥) → (r.kind ≡ 10 → ⊥) → (r.kind ≡ 11 → ⊥)
      → (r.kind ≡ 12 → ⊥) → (r.kind ≡ 13 → ⊥) → (r.kind ≡ 14 → ⊥) → (r.kind ≡ 15 → ⊥) → (r.kind ≡ 16 → ⊥)
      → (r.kind ≡ 28 → ⊥) → (r.kind ≡ 29 → ⊥) → (r.kind ≡ 30 → ⊥) → Bad ≡ node_of r
  unfolding node_of
  node_high h a b c d e f g i j k l m n =
      rw (
        lt-leb r.kind 6 h,
        and-false,
        ne_eqb r.kind 7 a,
        ne_eqb r.kind 8 b,
        ne_eqb r.kind 9 c,
        ne_eqb r.kind 10 d,
        ne_eqb r.kind 11 e,
        ne_eqb r.kind 12 f,
        ne_eqb r.kind 13 g,
        ne_eqb r.kind 14 i,
        ne_eqb r.kind 15 j,
        ne_eqb r.kind 16 k,
        ne_eqb r.kind 28 l,
        ne_eqb r.kind 29 m,
        ne_eqb r.kind 30 n,
      )
