-- What stands in a value's, a table's and the root's place, and what the parser does at a value, by its shape.
-- Assumes nothing.
use Prim.Native.Nat.{ℕ, ◌+◌}
use mathlib.Core.Path.{◌≡◌, refl}
use mathlib.Core.List.{List}
use native.Mathlib.Omega.{arith}
use Rattle.std.specs.Prelude.{Option, Some, None}
use Rattle.word.specs.Refusal.{Checked, refusal}
use Rattle.view.specs.Ast.{Exp, Parsed}
use Rattle.view.specs.Ast as ast
use Rattle.view.specs.Record.{slot_of, shape_of}
use Rattle.view.specs.Parse.{many, parse_block, parse_node, place_of}
use Rattle.view.specs.declared.Shape.{Shape}
use Rattle.view.specs.declared.Shape.TheVariants.{Values, Block}
use Rattle.view.specs.declared.Node.{Node}
use Rattle.view.specs.declared.Node.TheVariants.{Const, Binop, Not, If, Exists, Single, Table, Select, Col, Classof, Let, Bad}
use Rattle.view.proofs.Laws.{place_map, one_place, two_place, three_place}

-- where a node may stand
data Stands : Node → Type 0 where
  in_value : {x : Node} (s : Shape) → slot_of x ≡ 1 → shape_of x ≡ Some s → Stands x
  in_table : (name : ℕ) → Stands (Table name)
  in_root : (a b : ℕ) → Stands (Select a b)
  nowhere : Stands Bad

stands : (x : Node) → Stands x
unfolding slot_of shape_of
stands (Const t v) = in_value _ refl refl
stands (Binop op) = in_value _ refl refl
stands Not = in_value _ refl refl
stands If = in_value _ refl refl
stands (Exists a q) = in_value _ refl refl
stands (Single a q) = in_value _ refl refl
stands (Table name) = in_table name
stands (Select a b) = in_root a b
stands (Col name q) = in_value _ refl refl
stands (Classof name q) = in_value _ refl refl
stands (Let name) = in_value _ refl refl
stands Bad = nowhere

-- a node that has a shape may stand in a value's place, and no other
pub is_value : (x : Node) {s : Shape} → Some s ≡ shape_of x → slot_of x ≡ 1
unfolding shape_of
is_value x {s} e = by (stands x) e
  where
    by : {y : Node} → Stands y → Some s ≡ shape_of y → slot_of y ≡ 1
    by (in_value t z f) g = z
    by (in_table name) g = absurd (let h : ◌≡◌ {A = ℕ} 0 1 = cc in omega arith)
    by (in_root a b) g = absurd (let h : ◌≡◌ {A = ℕ} 0 1 = cc in omega arith)
    by nowhere g = absurd (let h : ◌≡◌ {A = ℕ} 0 1 = cc in omega arith)

pub no_value : (x : Node) → None ≡ shape_of x → slot_of x ≡ 1 → ⊥
unfolding slot_of
no_value x e f = by (stands x) e f
  where
    by : {y : Node} → Stands y → None ≡ shape_of y → slot_of y ≡ 1 → ⊥
    by (in_value t z f) g h = let i : ◌≡◌ {A = ℕ} 0 1 = cc in omega arith
    by (in_table name) g h = omega arith
    by (in_root a b) g h = omega arith
    by nowhere g h = omega arith

-- a bad node, a table's and the root's
pub slot_bad : (x : Node) → slot_of x ≡ 0 → x ≡ Bad
unfolding slot_of
slot_bad x e = by (stands x) e
  where
    by : {y : Node} → Stands y → slot_of y ≡ 0 → y ≡ Bad
    by (in_value s z f) g = absurd (omega arith)
    by (in_table name) g = absurd (omega arith)
    by (in_root a b) g = absurd (omega arith)
    by nowhere g = refl

pub slot_table : (x : Node) → slot_of x ≡ 2 → (name : ℕ) × (x ≡ Table name)
unfolding slot_of
slot_table x e = by (stands x) e
  where
    by : {y : Node} → Stands y → slot_of y ≡ 2 → (name : ℕ) × (y ≡ Table name)
    by (in_value s z f) g = absurd (omega arith)
    by (in_table name) g = (name, refl)
    by (in_root a b) g = absurd (omega arith)
    by nowhere g = absurd (omega arith)

pub slot_select : (x : Node) → slot_of x ≡ 3 → (a : ℕ) × (b : ℕ) × (x ≡ Select a b)
unfolding slot_of
slot_select x e = by (stands x) e
  where
    by : {y : Node} → Stands y → slot_of y ≡ 3 → (a : ℕ) × (b : ℕ) × (y ≡ Select a b)
    by (in_value s z f) g = absurd (omega arith)
    by (in_table name) g = absurd (omega arith)
    by (in_root a b) g = (a, b, refl)
    by nowhere g = absurd (omega arith)

module _ (v : List ℕ) (n d : ℕ) (p : ℕ → Parsed Exp) (at : ℕ) where
  -- what the parser reads after a record, by its shape
  unfoldable pub after : Option Shape → Checked ℕ
  after (Some (Values count)) = place_of (many p count (at + 1))
  after (Some (Block tables values)) = place_of (parse_block v n d p tables values (at + 1))
  after None = refusal 4 at

  pub shape_place : (x : Node) → (slot_of x ≡ 0 → ⊥) → place_of (parse_node v n d p at x) ≡ after (shape_of x)
  unfolding slot_of shape_of parse_node place_of many after
  shape_place (Const t y) u = refl
  shape_place (Binop op) u = two_place p (at + 1) (ast.Exp.binop at op)
  shape_place Not u = one_place p (at + 1) (ast.Exp.neg at)
  shape_place If u = three_place p (at + 1) (ast.Exp.if at)
  shape_place (Exists a q) u = place_map (parse_block v n d p a 0 (at + 1)) _
  shape_place (Single a q) u = place_map (parse_block v n d p a 1 (at + 1)) _
  shape_place (Table name) u = refl
  shape_place (Select a b) u = refl
  shape_place (Col name q) u = refl
  shape_place (Classof name q) u = refl
  shape_place (Let name) u = two_place p (at + 1) (ast.Exp.letin at name)
  shape_place Bad u = absurd (u refl)
