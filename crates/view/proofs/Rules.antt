-- The rule that a record's kind has for its fields, and the node of a record that keeps it: one law for each kind.
-- Assumes nothing.
use Prim.Native.Nat.{ℕ, ◌/◌, ◌%◌, ◌≤◌}
use mathlib.Core.Path.{◌≡◌, refl, sym}
use mathlib.Core.Bool.{Bool, true, false, not, ◌&&◌}
use native.Mathlib.Omega.{arith}
use borrow.Author.Rules.{rules}
use borrow.Author.Tests.{ne_eqb, eqb-true, leb-true, leb-false}
use lib.Dec.{eqb, leb}
use lib.IntN.{ℤ}
use Rattle.word.specs.Bytes.{within}
use Rattle.word.specs.Record.{Record}
use Rattle.cell.specs.declared.Type.TheVariants as T
use Rattle.cell.specs.declared.Value.TheVariants as X
use Rattle.cell.specs.Types.{digits_rule}
use Rattle.cell.specs.Values.{digits}
use Rattle.view.specs.Record.{when, bare, op_only, a_only, counts, value_in, const_of, node_of, slot_of, in_rule}
use Rattle.view.specs.declared.Node.{Node}
use Rattle.view.specs.declared.Fold.TheVariants as fold
use Rattle.view.specs.declared.Pick.TheVariants as pick
use Rattle.view.specs.declared.Node.TheVariants.{Const, Binop, Not, If, Exists, Single, Table, Select, Col, Classof, Let, Bad}
use Rattle.view.proofs.Nodes.{node_low, node_high}
use Rattle.view.proofs.Shapes.{slot_bad}

module _ (r : Record) where
  -- what each kind says
  at_null : r.kind ≡ 1 → node_of r ≡ when (bare r) (Const T.Null X.Null)
  unfolding node_of const_of
  at_null k = rw k

  at_truth : r.kind ≡ 2 → node_of r ≡ when (leb r.op 1 && op_only r) (Const T.Boolean (X.Truth (eqb r.op 1)))
  unfolding node_of const_of
  at_truth k = rw k

  at_fixed : r.kind ≡ 3 → node_of r ≡ when (eqb r.a 0 && (digits_rule (r.op / 16) (r.op % 16) && digits (r.op / 16) (value_in r))) (Const (T.Fixed (r.op / 16) (r.op % 16)) (X.Fixed (r.op % 16) (value_in r)))
  unfolding node_of const_of
  at_fixed k = rw k

  at_time : r.kind ≡ 4 → node_of r ≡ when (eqb r.a 0) (Const (T.Time r.op) (X.Time (value_in r)))
  unfolding node_of const_of
  at_time k = rw k

  at_interval : r.kind ≡ 5 → node_of r ≡ when (eqb r.a 0) (Const (T.Interval r.op) (X.Interval (value_in r)))
  unfolding node_of const_of
  at_interval k = rw k

  at_class : r.kind ≡ 6 → node_of r ≡ when (a_only r) (Const T.Class (X.Class r.a))
  unfolding node_of const_of
  at_class k = rw k

  at_binop : r.kind ≡ 7 → node_of r ≡ when (within 1 12 r.op && op_only r) (Binop r.op)
  unfolding node_of const_of
  at_binop k = rw k

  at_not : r.kind ≡ 8 → node_of r ≡ when (bare r) (Not)
  unfolding node_of const_of
  at_not k = rw k

  at_if : r.kind ≡ 9 → node_of r ≡ when (bare r) (If)
  unfolding node_of const_of
  at_if k = rw k

  at_exists : r.kind ≡ 10 → node_of r ≡ when (within 1 4 r.a && a_only r) (Exists r.a fold.Any)
  unfolding node_of const_of
  at_exists k = rw k

  at_single : r.kind ≡ 11 → node_of r ≡ when (within 1 4 r.a && a_only r) (Single r.a pick.Only)
  unfolding node_of const_of
  at_single k = rw k

  at_table : r.kind ≡ 12 → node_of r ≡ when (leb 1 r.a && a_only r) (Table r.a)
  unfolding node_of const_of
  at_table k = rw k

  at_select : r.kind ≡ 13 → node_of r ≡ when ((within 1 4 r.a && within 1 32 r.b) && (eqb r.op 0 && eqb r.c 0)) (Select r.a r.b)
  unfolding node_of const_of
  at_select k = rw k

  at_col : r.kind ≡ 14 → node_of r ≡ when (leb 1 r.a && (eqb r.op 0 && eqb r.c 0)) (Col r.a r.b)
  unfolding node_of const_of
  at_col k = rw k

  at_classof : r.kind ≡ 15 → node_of r ≡ when (leb 1 r.a && (eqb r.op 0 && eqb r.c 0)) (Classof r.a r.b)
  unfolding node_of const_of
  at_classof k = rw k

  at_let : r.kind ≡ 16 → node_of r ≡ when (leb 1 r.a && a_only r) (Let r.a)
  unfolding node_of const_of
  at_let k = rw k

  at_count : r.kind ≡ 28 → node_of r ≡ when (within 1 4 r.a && counts r) (Exists r.a (fold.Count (r.op / 16)))
  unfolding node_of const_of
  at_count k = rw k

  at_greatest : r.kind ≡ 29 → node_of r ≡ when (within 1 4 r.a && a_only r) (Single r.a pick.Greatest)
  unfolding node_of const_of
  at_greatest k = rw k

  at_least : r.kind ≡ 30 → node_of r ≡ when (within 1 4 r.a && a_only r) (Single r.a pick.Least)
  unfolding node_of const_of
  at_least k = rw k

  -- a rule, kept or not, by the node that it guards
  by_rule : {o : Bool} (b : Bool) (x : Node) → (slot_of x ≡ 0 → ⊥) → node_of r ≡ when b x → o ≡ b → o ≡ in_rule r
  unfolding in_rule slot_of
  by_rule true x u e f = rw (f, e, ne_eqb (slot_of x) 0 u)
  by_rule false x u e f = rw (f, e)

  kept : (b : Bool) (x : Node) → node_of r ≡ when b x → in_rule r ≡ true → x ≡ node_of r
  unfolding in_rule slot_of
  kept true x e s = sym e
  kept false x e s = let h : false ≡ true = rw e at s in absurd (let g : ◌≡◌ {A = ℕ} 0 1 = cc in omega arith)

  module _ {o : Bool} where
    pub rule_null : r.kind ≡ 1 → o ≡ (bare r) → o ≡ in_rule r
    unfolding slot_of
    rule_null k e = by_rule (bare r) (Const T.Null X.Null) (λ z. omega arith) (at_null k) e

    pub rule_truth : r.kind ≡ 2 → o ≡ (leb r.op 1 && op_only r) → o ≡ in_rule r
    unfolding slot_of
    rule_truth k e = by_rule (leb r.op 1 && op_only r) (Const T.Boolean (X.Truth (eqb r.op 1))) (λ z. omega arith) (at_truth k) e

    pub rule_fixed : r.kind ≡ 3 → o ≡ (eqb r.a 0 && (digits_rule (r.op / 16) (r.op % 16) && digits (r.op / 16) (value_in r))) → o ≡ in_rule r
    unfolding slot_of
    rule_fixed k e = by_rule (eqb r.a 0 && (digits_rule (r.op / 16) (r.op % 16) && digits (r.op / 16) (value_in r))) (Const (T.Fixed (r.op / 16) (r.op % 16)) (X.Fixed (r.op % 16) (value_in r))) (λ z. omega arith) (at_fixed k) e

    pub rule_time : r.kind ≡ 4 → o ≡ (eqb r.a 0) → o ≡ in_rule r
    unfolding slot_of
    rule_time k e = by_rule (eqb r.a 0) (Const (T.Time r.op) (X.Time (value_in r))) (λ z. omega arith) (at_time k) e

    pub rule_interval : r.kind ≡ 5 → o ≡ (eqb r.a 0) → o ≡ in_rule r
    unfolding slot_of
    rule_interval k e = by_rule (eqb r.a 0) (Const (T.Interval r.op) (X.Interval (value_in r))) (λ z. omega arith) (at_interval k) e

    pub rule_class : r.kind ≡ 6 → o ≡ (a_only r) → o ≡ in_rule r
    unfolding slot_of
    rule_class k e = by_rule (a_only r) (Const T.Class (X.Class r.a)) (λ z. omega arith) (at_class k) e

    pub rule_binop : r.kind ≡ 7 → o ≡ (within 1 12 r.op && op_only r) → o ≡ in_rule r
    unfolding slot_of
    rule_binop k e = by_rule (within 1 12 r.op && op_only r) (Binop r.op) (λ z. omega arith) (at_binop k) e

    pub rule_not : r.kind ≡ 8 → o ≡ (bare r) → o ≡ in_rule r
    unfolding slot_of
    rule_not k e = by_rule (bare r) (Not) (λ z. omega arith) (at_not k) e

    pub rule_if : r.kind ≡ 9 → o ≡ (bare r) → o ≡ in_rule r
    unfolding slot_of
    rule_if k e = by_rule (bare r) (If) (λ z. omega arith) (at_if k) e

    pub rule_exists : r.kind ≡ 10 → o ≡ (within 1 4 r.a && a_only r) → o ≡ in_rule r
    unfolding slot_of
    rule_exists k e = by_rule (within 1 4 r.a && a_only r) (Exists r.a fold.Any) (λ z. omega arith) (at_exists k) e

    pub rule_single : r.kind ≡ 11 → o ≡ (within 1 4 r.a && a_only r) → o ≡ in_rule r
    unfolding slot_of
    rule_single k e = by_rule (within 1 4 r.a && a_only r) (Single r.a pick.Only) (λ z. omega arith) (at_single k) e

    pub rule_table : r.kind ≡ 12 → o ≡ (leb 1 r.a && a_only r) → o ≡ in_rule r
    unfolding slot_of
    rule_table k e = by_rule (leb 1 r.a && a_only r) (Table r.a) (λ z. omega arith) (at_table k) e

    pub rule_select : r.kind ≡ 13 → o ≡ ((within 1 4 r.a && within 1 32 r.b) && (eqb r.op 0 && eqb r.c 0)) → o ≡ in_rule r
    unfolding slot_of
    rule_select k e = by_rule ((within 1 4 r.a && within 1 32 r.b) && (eqb r.op 0 && eqb r.c 0)) (Select r.a r.b) (λ z. omega arith) (at_select k) e

    pub rule_col : r.kind ≡ 14 → o ≡ (leb 1 r.a && (eqb r.op 0 && eqb r.c 0)) → o ≡ in_rule r
    unfolding slot_of
    rule_col k e = by_rule (leb 1 r.a && (eqb r.op 0 && eqb r.c 0)) (Col r.a r.b) (λ z. omega arith) (at_col k) e

    pub rule_classof : r.kind ≡ 15 → o ≡ (leb 1 r.a && (eqb r.op 0 && eqb r.c 0)) → o ≡ in_rule r
    unfolding slot_of
    rule_classof k e = by_rule (leb 1 r.a && (eqb r.op 0 && eqb r.c 0)) (Classof r.a r.b) (λ z. omega arith) (at_classof k) e

    pub rule_let : r.kind ≡ 16 → o ≡ (leb 1 r.a && a_only r) → o ≡ in_rule r
    unfolding slot_of
    rule_let k e = by_rule (leb 1 r.a && a_only r) (Let r.a) (λ z. omega arith) (at_let k) e

    pub rule_count : r.kind ≡ 28 → o ≡ (within 1 4 r.a && counts r) → o ≡ in_rule r
    unfolding slot_of
    rule_count k e = by_rule (within 1 4 r.a && counts r) (Exists r.a (fold.Count (r.op / 16))) (λ z. omega arith) (at_count k) e

    pub rule_greatest : r.kind ≡ 29 → o ≡ (within 1 4 r.a && a_only r) → o ≡ in_rule r
    unfolding slot_of
    rule_greatest k e = by_rule (within 1 4 r.a && a_only r) (Single r.a pick.Greatest) (λ z. omega arith) (at_greatest k) e

    pub rule_least : r.kind ≡ 30 → o ≡ (within 1 4 r.a && a_only r) → o ≡ in_rule r
    unfolding slot_of
    rule_least k e = by_rule (within 1 4 r.a && a_only r) (Single r.a pick.Least) (λ z. omega arith) (at_least k) e

  pub sound_null : r.kind ≡ 1 → in_rule r ≡ true → Const T.Null X.Null ≡ node_of r
  sound_null k s = kept (bare r) _ (at_null k) s

  pub sound_truth : r.kind ≡ 2 → in_rule r ≡ true → Const T.Boolean (X.Truth (eqb r.op 1)) ≡ node_of r
  sound_truth k s = kept (leb r.op 1 && op_only r) _ (at_truth k) s

  pub sound_fixed : {z : ℤ} → r.kind ≡ 3 → z ≡ value_in r → in_rule r ≡ true → Const (T.Fixed (r.op / 16) (r.op % 16)) (X.Fixed (r.op % 16) z) ≡ node_of r
  sound_fixed k z s = rw z (kept (eqb r.a 0 && (digits_rule (r.op / 16) (r.op % 16) && digits (r.op / 16) (value_in r))) _ (at_fixed k) s)

  pub sound_time : {z : ℤ} → r.kind ≡ 4 → z ≡ value_in r → in_rule r ≡ true → Const (T.Time r.op) (X.Time z) ≡ node_of r
  sound_time k z s = rw z (kept (eqb r.a 0) _ (at_time k) s)

  pub sound_interval : {z : ℤ} → r.kind ≡ 5 → z ≡ value_in r → in_rule r ≡ true → Const (T.Interval r.op) (X.Interval z) ≡ node_of r
  sound_interval k z s = rw z (kept (eqb r.a 0) _ (at_interval k) s)

  pub sound_class : r.kind ≡ 6 → in_rule r ≡ true → Const T.Class (X.Class r.a) ≡ node_of r
  sound_class k s = kept (a_only r) _ (at_class k) s

  pub sound_binop : r.kind ≡ 7 → in_rule r ≡ true → Binop r.op ≡ node_of r
  sound_binop k s = kept (within 1 12 r.op && op_only r) _ (at_binop k) s

  pub sound_not : r.kind ≡ 8 → in_rule r ≡ true → Not ≡ node_of r
  sound_not k s = kept (bare r) _ (at_not k) s

  pub sound_if : r.kind ≡ 9 → in_rule r ≡ true → If ≡ node_of r
  sound_if k s = kept (bare r) _ (at_if k) s

  pub sound_exists : r.kind ≡ 10 → in_rule r ≡ true → Exists r.a fold.Any ≡ node_of r
  sound_exists k s = kept (within 1 4 r.a && a_only r) _ (at_exists k) s

  pub sound_single : r.kind ≡ 11 → in_rule r ≡ true → Single r.a pick.Only ≡ node_of r
  sound_single k s = kept (within 1 4 r.a && a_only r) _ (at_single k) s

  pub sound_table : r.kind ≡ 12 → in_rule r ≡ true → Table r.a ≡ node_of r
  sound_table k s = kept (leb 1 r.a && a_only r) _ (at_table k) s

  pub sound_select : r.kind ≡ 13 → in_rule r ≡ true → Select r.a r.b ≡ node_of r
  sound_select k s = kept ((within 1 4 r.a && within 1 32 r.b) && (eqb r.op 0 && eqb r.c 0)) _ (at_select k) s

  pub sound_col : r.kind ≡ 14 → in_rule r ≡ true → Col r.a r.b ≡ node_of r
  sound_col k s = kept (leb 1 r.a && (eqb r.op 0 && eqb r.c 0)) _ (at_col k) s

  pub sound_classof : r.kind ≡ 15 → in_rule r ≡ true → Classof r.a r.b ≡ node_of r
  sound_classof k s = kept (leb 1 r.a && (eqb r.op 0 && eqb r.c 0)) _ (at_classof k) s

  pub sound_let : r.kind ≡ 16 → in_rule r ≡ true → Let r.a ≡ node_of r
  sound_let k s = kept (leb 1 r.a && a_only r) _ (at_let k) s

  pub sound_count : r.kind ≡ 28 → in_rule r ≡ true → Exists r.a (fold.Count (r.op / 16)) ≡ node_of r
  sound_count k s = kept (within 1 4 r.a && counts r) _ (at_count k) s

  pub sound_greatest : r.kind ≡ 29 → in_rule r ≡ true → Single r.a pick.Greatest ≡ node_of r
  sound_greatest k s = kept (within 1 4 r.a && a_only r) _ (at_greatest k) s

  pub sound_least : r.kind ≡ 30 → in_rule r ≡ true → Single r.a pick.Least ≡ node_of r
  sound_least k s = kept (within 1 4 r.a && a_only r) _ (at_least k) s

  -- an unknown kind
  bad_rule : Bad ≡ node_of r → false ≡ in_rule r
  unfolding in_rule slot_of
  bad_rule e = rw (← e)

  pub unknown : (1 ≤ r.kind → r.kind ≤ 16 → ⊥) → (28 ≤ r.kind → r.kind ≤ 30 → ⊥) → Bad ≡ node_of r
  unknown f g = go (leb 1 r.kind) refl
    where
      go : (b : Bool) → leb 1 r.kind ≡ b → Bad ≡ node_of r
      go false e = node_low r (leb-false 1 r.kind e)
      go true e =
          let l : 1 ≤ r.kind = leb-true 1 r.kind e in
          let h : 17 ≤ r.kind = by (leb r.kind 16) refl l in
          node_high r (omega arith) (λ i. omega arith) (λ i. omega arith) (λ i. omega arith) (λ i. omega arith) (λ i. omega arith) (λ i. omega arith) (λ i. omega arith) (λ i. omega arith) (λ i. omega arith) (λ i. omega arith)
          (λ i. g (omega arith) (omega arith)) (λ i. g (omega arith) (omega arith)) (λ i. g (omega arith) (omega arith))
        where
          by : (b : Bool) → leb r.kind 16 ≡ b → 1 ≤ r.kind → 17 ≤ r.kind
          by true h l = absurd (f l (leb-true r.kind 16 h))
          by false h l = leb-false r.kind 16 h

  pub rule_none : (1 ≤ r.kind → r.kind ≤ 16 → ⊥) → (28 ≤ r.kind → r.kind ≤ 30 → ⊥) → false ≡ in_rule r
  rule_none f g = bad_rule (unknown f g)

  -- a record that says nothing, and one that says a value
  pub out_of_rule : in_rule r ≡ false → Bad ≡ node_of r
  unfolding in_rule
  out_of_rule e = sym (slot_bad (node_of r) (eqb-true (slot_of (node_of r)) 0 (not_false _ e)))
    where
      not_false : (b : Bool) → not b ≡ false → b ≡ true
      not_false true e = refl
      not_false false e = sym e

  pub rule_slot : in_rule r ≡ true → eqb (slot_of (node_of r)) 0 ≡ false
  unfolding in_rule
  rule_slot e = not_true _ e
    where
      not_true : (b : Bool) → not b ≡ true → b ≡ false
      not_true true e = sym e
      not_true false e = refl

  pub value_in_rule : slot_of (node_of r) ≡ 1 → in_rule r ≡ true
  unfolding in_rule
  value_in_rule e = rw e

pub ruleset rule = (rule_null, rule_truth, rule_fixed, rule_time, rule_interval, rule_class, rule_binop, rule_not, rule_if, rule_exists, rule_single, rule_table, rule_select, rule_col, rule_classof, rule_let, rule_count, rule_greatest, rule_least, rules)

pub ruleset sound = (sound_null, sound_truth, sound_fixed, sound_time, sound_interval, sound_class, sound_binop, sound_not, sound_if, sound_exists, sound_single, sound_table, sound_select, sound_col, sound_classof, sound_let, sound_count, sound_greatest, sound_least, rules)
