-- What an accepted value tells of its parts: from `resolve` of a node, what each child resolves to; and what the walk's answer says of it.
-- Assumes nothing.
use Prim.Native.Nat.{ℕ}
use mathlib.Core.Path.{◌≡◌, refl, sym, ap, ◌∙◌}
use mathlib.Core.Bool.{Bool, true, false, cond, ◌&&◌}
use mathlib.Core.List.{List, [], ◌∷◌}
use native.Mathlib.Omega.{arith}
use lib.Dec.{eqb, leb}
use borrow.Author.Tests.{eqb-true}
use Rattle.word.specs.Refusal.{fine, refusal}
use Rattle.class.specs.declared.Info.{Info}
use Rattle.cell.specs.Res.{Res, stuck, done}
use Rattle.cell.specs.Types.{kind_of, digits_of, binop_type, limb_type}
use Rattle.cell.specs.declared.Type.{«Type» as Ty}
use Rattle.cell.specs.declared.Type.TheVariants as T
use Rattle.cell.specs.declared.Value.{Value}
use Rattle.catalogue.specs.Tables.{Table, Column, TabRef}
use Rattle.view.specs.Ast.{TabName, Exp, Block, Parsed, ok}
use Rattle.view.specs.Ast as ast
use Rattle.view.specs.declared.Fold.{Fold}
use Rattle.view.specs.declared.Pick.{Pick}
use Rattle.view.specs.declared.Pick.TheVariants as pick
use Rattle.scope.specs.Scopes.{Open, local, Hit, column, bound, Only, none, one, more, find}
use Rattle.scope.specs.Blocks.{Tabs, all, missing, tables_named, opened}
use Rattle.resolve.specs.Expr.{Expr, Select}
use Rattle.resolve.specs.Expr as expr
use Rattle.resolve.specs.Totals.{fold_type, ordered_type, pick_type}
use Rattle.resolve.specs.Resolve.{Out, good, bad, then, col_out, class_out, on_tabs, ruled, need_bool, brought, resolve, Outs, goods, bads, also_out, resolve_all, select, refused as denied, with_values, with_test, with_tabs, resolve_view}
use Rattle.resolve.specs.Typed.{known_of, typed_at, typed_by}
use Rattle.resolve.specs.declared.Known.{Known}

-- A refusal is not an acceptance.
pub bad_good : {A : Type 0} {i p : ℕ} {x : Expr} {t : Ty} → bad i p ≡ good x t → A
bad_good e = absurd (let z : ◌≡◌ {A = ℕ} 0 1 = cc in omega arith)

pub good_expr : {x y : Expr} {s t : Ty} → good x s ≡ good y t → y ≡ x
good_expr e = cc

pub good_type : {x y : Expr} {s t : Ty} → good x s ≡ good y t → s ≡ t
good_type e = cc

-- THE CHAIN, one link: what came first was good, and the rest gave the answer.
pub record Then (o : Out) (f : Expr → Ty → Out) (x : Expr) (t : Ty) : Type 0 where
  pub y : Expr
  pub s : Ty
  pub first : o ≡ good y s
  pub rest : f y s ≡ good x t

pub then_good : (o : Out) (f : Expr → Ty → Out) (x : Expr) (t : Ty) → then o f ≡ good x t → Then o f x t
unfolding then
then_good (good y s) f x t e = record { y = y; s = s; first = refl; rest = e }
then_good (bad i p) f x t e = bad_good e

pub record OnTabs (ts : Tabs) (f : List TabRef → Out) (x : Expr) (t : Ty) : Type 0 where
  pub tabs : List TabRef
  pub there : ts ≡ all tabs
  pub rest : f tabs ≡ good x t

pub tabs_good : (ts : Tabs) (f : List TabRef → Out) (x : Expr) (t : Ty) → on_tabs ts f ≡ good x t → OnTabs ts f x t
unfolding on_tabs
tabs_good (all us) f x t e = record { tabs = us; there = refl; rest = e }
tabs_good (missing p) f x t e = bad_good e

pub record Ruled (r : Res Ty) (f : Ty → Out) (x : Expr) (t : Ty) : Type 0 where
  pub u : Ty
  pub rule : r ≡ done u
  pub rest : f u ≡ good x t

pub ruled_good : (at : ℕ) (r : Res Ty) (f : Ty → Out) (x : Expr) (t : Ty) → ruled at r f ≡ good x t → Ruled r f x t
unfolding ruled
ruled_good at stuck f x t e = bad_good e
ruled_good at (done u) f x t e = record { u = u; rule = refl; rest = e }

-- VALUE, MAX and MIN give their value's type.
ordered_same : (s t : Ty) → ordered_type s ≡ done t → s ≡ t
unfolding ordered_type
ordered_same s t = go (leb 2 (kind_of s) && leb (kind_of s) 4)
  where
    go : (b : Bool) → cond b (done s) stuck ≡ done t → s ≡ t
    go true e = cc
    go false e = absurd (let z : ◌≡◌ {A = ℕ} 0 1 = cc in omega arith)

pub pick_same : (g : Pick) (s t : Ty) → pick_type g s ≡ done t → s ≡ t
unfolding pick_type
pick_same pick.Only s t e = cc
pick_same pick.Greatest s t e = ordered_same s t e
pick_same pick.Least s t e = ordered_same s t e

is_boolean : (t : Ty) → kind_of t ≡ 1 → t ≡ T.Boolean
unfolding kind_of
is_boolean T.Null e = absurd (omega arith)
is_boolean T.Boolean e = refl
is_boolean (T.Fixed p s) e = absurd (omega arith)
is_boolean (T.Time f) e = absurd (omega arith)
is_boolean (T.Interval f) e = absurd (omega arith)
is_boolean T.Class e = absurd (omega arith)

pub record Boolean (s : Ty) (o : Out) (x : Expr) (t : Ty) : Type 0 where
  pub boolean : s ≡ T.Boolean
  pub rest : o ≡ good x t

pub bool_good : (at : ℕ) (s : Ty) (o : Out) (x : Expr) (t : Ty) → need_bool at s o ≡ good x t → Boolean s o x t
unfolding need_bool
bool_good at s o x t = go (eqb (kind_of s) 1) refl
  where
    go : (b : Bool) → eqb (kind_of s) 1 ≡ b → cond b o (bad 9 at) ≡ good x t → Boolean s o x t
    go true h e = record { boolean = is_boolean s (eqb-true _ _ h); rest = e }
    go false h e = bad_good e

-- ONE LAW FOR EACH KIND, over a catalogue and the open scopes: the resolved expression's parts.
module _ (cat : List Table) (Γ : List Open) (x : Expr) (t : Ty) where
  pub record ConstGood (s : Ty) (v : Value) : Type 0 where
    pub is : x ≡ expr.Expr.const t v
    pub type_is : t ≡ s

  pub const_good : (at : ℕ) (s : Ty) (v : Value) → resolve cat Γ (ast.Exp.const at s v) ≡ good x t → ConstGood s v
  unfolding resolve
  const_good at s v e = record { is = good_expr e ∙ ap (λ (u : Ty). expr.Expr.const u v) (good_type e); type_is = sym (good_type e) }

  pub record BinGood (op : ℕ) (l r : Exp) : Type 0 where
    pub y : Expr
    pub s : Ty
    pub z : Expr
    pub u : Ty
    pub left : resolve cat Γ l ≡ good y s
    pub right : resolve cat Γ r ≡ good z u
    pub rule : binop_type op s u ≡ done t
    pub is : x ≡ expr.Expr.bin op (digits_of t) y z

  pub bin_good : (at op : ℕ) (l r : Exp) → resolve cat Γ (ast.Exp.binop at op l r) ≡ good x t → BinGood op l r
  unfolding resolve
  bin_good at op l r e =
      let a = then_good (resolve cat Γ l) _ x t e in
      let b = then_good (resolve cat Γ r) _ x t a.rest in
      let c = ruled_good at (binop_type op a.s b.s) _ x t b.rest in
      record {
        y = a.y;
        s = a.s;
        z = b.y;
        u = b.s;
        left = a.first;
        right = b.first;
        rule = c.rule ∙ ap done (good_type c.rest);
        is = good_expr c.rest ∙ ap (λ (w : Ty). expr.Expr.bin op (digits_of w) a.y b.y) (good_type c.rest);
      }

  pub record NegGood (e : Exp) : Type 0 where
    pub y : Expr
    pub operand : resolve cat Γ e ≡ good y T.Boolean
    pub is : x ≡ expr.Expr.neg y
    pub type_is : t ≡ T.Boolean

  pub neg_good : (at : ℕ) (e : Exp) → resolve cat Γ (ast.Exp.neg at e) ≡ good x t → NegGood e
  unfolding resolve
  neg_good at e h =
      let a = then_good (resolve cat Γ e) _ x t h in
      let b = bool_good at a.s _ x t a.rest in
      record {
        y = a.y;
        operand = a.first ∙ ap (good a.y) b.boolean;
        is = good_expr b.rest;
        type_is = sym (good_type b.rest);
      }

  pub record IfGood (c l r : Exp) : Type 0 where
    pub w : Expr
    pub y : Expr
    pub s : Ty
    pub z : Expr
    pub u : Ty
    pub condition : resolve cat Γ c ≡ good w T.Boolean
    pub left : resolve cat Γ l ≡ good y s
    pub right : resolve cat Γ r ≡ good z u
    pub rule : limb_type s u ≡ done t
    pub is : x ≡ expr.Expr.if w (brought s t y) (brought u t z)

  pub if_good : (at : ℕ) (c l r : Exp) → resolve cat Γ (ast.Exp.if at c l r) ≡ good x t → IfGood c l r
  unfolding resolve
  if_good at c l r h =
      let a = then_good (resolve cat Γ c) _ x t h in
      let b = then_good (resolve cat Γ l) _ x t a.rest in
      let d = then_good (resolve cat Γ r) _ x t b.rest in
      let g = bool_good at a.s _ x t d.rest in
      let m = ruled_good at (limb_type b.s d.s) _ x t g.rest in
      record {
        w = a.y;
        y = b.y;
        s = b.s;
        z = d.y;
        u = d.s;
        condition = a.first ∙ ap (good a.y) g.boolean;
        left = b.first;
        right = d.first;
        rule = m.rule ∙ ap done (good_type m.rest);
        is = good_expr m.rest ∙ ap (λ (v : Ty). expr.Expr.if a.y (brought b.s v b.y) (brought d.s v d.y)) (good_type m.rest);
      }

  pub record ExistsGood (q : Fold) (names : List TabName) (e : Exp) : Type 0 where
    pub tabs : List TabRef
    pub y : Expr
    pub there : tables_named cat names ≡ all tabs
    pub test : resolve cat (opened tabs ∷ Γ) e ≡ good y T.Boolean
    pub is : x ≡ expr.Expr.exists q tabs y
    pub type_is : t ≡ fold_type q

  pub exists_good : (at : ℕ) (q : Fold) (names : List TabName) (e : Exp) → resolve cat Γ (ast.Exp.exists at q names e) ≡ good x t → ExistsGood q names e
  unfolding resolve
  exists_good at q names e h =
      let a = tabs_good (tables_named cat names) _ x t h in
      let b = then_good (resolve cat (opened a.tabs ∷ Γ) e) _ x t a.rest in
      let c = bool_good at b.s _ x t b.rest in
      record {
        tabs = a.tabs;
        y = b.y;
        there = a.there;
        test = b.first ∙ ap (good b.y) c.boolean;
        is = good_expr c.rest;
        type_is = sym (good_type c.rest);
      }

  pub record SingleGood (q : Pick) (names : List TabName) (e v : Exp) : Type 0 where
    pub tabs : List TabRef
    pub y : Expr
    pub z : Expr
    pub s : Ty
    pub there : tables_named cat names ≡ all tabs
    pub test : resolve cat (opened tabs ∷ Γ) e ≡ good y T.Boolean
    pub value : resolve cat (opened tabs ∷ Γ) v ≡ good z s
    pub rule : pick_type q s ≡ done t
    pub is : x ≡ expr.Expr.single q tabs y z

  pub single_good : (at : ℕ) (q : Pick) (names : List TabName) (e v : Exp) → resolve cat Γ (ast.Exp.single at q names e v) ≡ good x t → SingleGood q names e v
  unfolding resolve
  single_good at q names e v h =
      let a = tabs_good (tables_named cat names) _ x t h in
      let b = then_good (resolve cat (opened a.tabs ∷ Γ) e) _ x t a.rest in
      let c = then_good (resolve cat (opened a.tabs ∷ Γ) v) _ x t b.rest in
      let d = bool_good at b.s _ x t c.rest in
      let g = ruled_good at (pick_type q c.s) _ x t d.rest in
      record {
        tabs = a.tabs;
        y = b.y;
        z = c.y;
        s = c.s;
        there = a.there;
        test = b.first ∙ ap (good b.y) d.boolean;
        value = c.first;
        rule = g.rule ∙ ap done (good_type g.rest);
        is = good_expr g.rest;
      }

  pub record LetGood (name : ℕ) (v b : Exp) : Type 0 where
    pub y : Expr
    pub s : Ty
    pub z : Expr
    pub value : resolve cat Γ v ≡ good y s
    pub body : resolve cat (local name s ∷ Γ) b ≡ good z t
    pub is : x ≡ expr.Expr.letin y z

  pub let_good : (at name : ℕ) (v b : Exp) → resolve cat Γ (ast.Exp.letin at name v b) ≡ good x t → LetGood name v b
  unfolding resolve
  let_good at name v b h =
      let a = then_good (resolve cat Γ v) _ x t h in
      let c = then_good (resolve cat (local name a.s ∷ Γ) b) _ x t a.rest in
      record {
        y = a.y;
        s = a.s;
        z = c.y;
        value = a.first;
        body = c.first ∙ ap (good c.y) (good_type c.rest);
        is = good_expr c.rest;
      }

-- COL: the one match is a column, or a local.
pub data ColGood (o : Only Hit) (x : Expr) (t : Ty) : Type 0 where
  of_column : (a b c : ℕ) (w : Table) (k : Column) → o ≡ one (column a b c w k) → x ≡ expr.Expr.col a b c k.info → t ≡ k.ty → ColGood o x t
  of_local : (a : ℕ) → o ≡ one (bound a t) → x ≡ expr.Expr.local a → ColGood o x t

col_out_lem : (at : ℕ) (x : Expr) (t : Ty) (o : Only Hit) → col_out at o ≡ good x t → ColGood o x t
unfolding col_out
col_out_lem at x t none e = bad_good e
col_out_lem at x t (one (column a b c w k)) e = of_column a b c w k refl (good_expr e) (sym (good_type e))
col_out_lem at x t (one (bound a s)) e = of_local a (ap (λ (u : Ty). one (bound a u)) (good_type e)) (good_expr e)
col_out_lem at x t more e = bad_good e

pub col_good : (cat : List Table) (Γ : List Open) (x : Expr) (t : Ty) (at name q : ℕ) → resolve cat Γ (ast.Exp.col at name q) ≡ good x t → ColGood (find name q 0 Γ) x t
unfolding resolve
col_good cat Γ x t at name q e = col_out_lem at x t (find name q 0 Γ) e

-- CLASSOF: the one match is a column.
pub record ClassGood (o : Only Hit) (x : Expr) (t : Ty) : Type 0 where
  pub a : ℕ
  pub b : ℕ
  pub c : ℕ
  pub table : Table
  pub col : Column
  pub found : o ≡ one (column a b c table col)
  pub is : x ≡ expr.Expr.classof a b c table.row
  pub type_is : t ≡ T.Class

class_out_lem : (at : ℕ) (x : Expr) (t : Ty) (o : Only Hit) → class_out at o ≡ good x t → ClassGood o x t
unfolding class_out
class_out_lem at x t none e = bad_good e
class_out_lem at x t (one (column a b c w k)) e =
    record { a = a; b = b; c = c; table = w; col = k; found = refl; is = good_expr e; type_is = sym (good_type e) }
class_out_lem at x t (one (bound a s)) e = bad_good e
class_out_lem at x t more e = bad_good e

pub classof_good : (cat : List Table) (Γ : List Open) (x : Expr) (t : Ty) (at name q : ℕ) → resolve cat Γ (ast.Exp.classof at name q) ≡ good x t → ClassGood (find name q 0 Γ) x t
unfolding resolve
classof_good cat Γ x t at name q e = class_out_lem at x t (find name q 0 Γ) e

-- SEVERAL VALUES, and the whole SELECT.
bads_goods : {A : Type 0} {i p : ℕ} {xs : List Expr} {ts : List Ty} → bads i p ≡ goods xs ts → A
bads_goods e = absurd (let z : ◌≡◌ {A = ℕ} 0 1 = cc in omega arith)

pub record AlsoGood (o : Out) (rest : Outs) (xs : List Expr) (ts : List Ty) : Type 0 where
  pub x : Expr
  pub t : Ty
  pub ys : List Expr
  pub us : List Ty
  pub first : o ≡ good x t
  pub others : rest ≡ goods ys us
  pub is : xs ≡ x ∷ ys
  pub types : ts ≡ t ∷ us

also_good : (o : Out) (rest : Outs) (xs : List Expr) (ts : List Ty) → also_out o rest ≡ goods xs ts → AlsoGood o rest xs ts
unfolding also_out
also_good (good x t) (goods ys us) xs ts e =
    record { x = x; t = t; ys = ys; us = us; first = refl; others = refl; is = (cc); types = (cc) }
also_good (good x t) (bads i p) xs ts e = bads_goods e
also_good (bad i p) rest xs ts e = bads_goods e

pub all_good : (cat : List Table) (Γ : List Open) (e : Exp) (es : List Exp) (xs : List Expr) (ts : List Ty)
    → resolve_all cat Γ (e ∷ es) ≡ goods xs ts → AlsoGood (resolve cat Γ e) (resolve_all cat Γ es) xs ts
unfolding resolve_all
all_good cat Γ e es xs ts h = also_good (resolve cat Γ e) (resolve_all cat Γ es) xs ts h

denied_select : {A : Type 0} {i p : ℕ} {s : Select} {ts : List Ty} → denied i p ≡ select s ts → A
denied_select e = absurd (let z : ◌≡◌ {A = ℕ} 0 1 = cc in omega arith)

pub record ViewGood (cat : List Table) (b : Block) (s : Select) (ts : List Ty) : Type 0 where
  pub there : tables_named cat b.tables ≡ all s.from
  pub test : resolve cat (opened s.from ∷ []) b.test ≡ good s.test T.Boolean
  pub values : resolve_all cat (opened s.from ∷ []) b.values ≡ goods s.values ts

-- the same, before the parts are named
record ValuesGood (x : Expr) (u : Ty) (vs : Outs) (us : List TabRef) (s : Select) (ts : List Ty) : Type 0 where
  boolean : u ≡ T.Boolean
  values : vs ≡ goods s.values ts
  from_is : us ≡ s.from
  test_is : x ≡ s.test

values_good : (us : List TabRef) (x : Expr) (u : Ty) (vs : Outs) (s : Select) (ts : List Ty) → with_values us x u vs ≡ select s ts → ValuesGood x u vs us s ts
unfolding with_values
values_good us x u (goods ys tys) s ts f = go (eqb (kind_of u) 1) refl f
  where
    made : Select
    made = record { from = us; test = x; values = ys }

    picked : select made tys ≡ select s ts → made ≡ s
    picked e = cc

    types : select made tys ≡ select s ts → tys ≡ ts
    types e = cc

    go : (b : Bool) → eqb (kind_of u) 1 ≡ b → cond b (select made tys) (denied 9 0) ≡ select s ts → ValuesGood x u (goods ys tys) us s ts
    go true h e =
        record {
          boolean = is_boolean u (eqb-true _ _ h);
          values = ap (λ (z : Select). goods z.values tys) (picked e) ∙ ap (goods s.values) (types e);
          from_is = ap (λ (z : Select). z.from) (picked e);
          test_is = ap (λ (z : Select). z.test) (picked e);
        }
    go false h e = denied_select e
values_good us x u (bads i p) s ts e = denied_select e

test_good : (us : List TabRef) (o : Out) (vs : Outs) (s : Select) (ts : List Ty) → with_test us o vs ≡ select s ts
    → (us ≡ s.from) × (o ≡ good s.test T.Boolean) × (vs ≡ goods s.values ts)
unfolding with_test
test_good us (good x u) vs s ts e =
    let h = values_good us x u vs s ts e in
    (h.from_is, ap (λ (z : Expr). good z u) h.test_is ∙ ap (good s.test) h.boolean, h.values)
test_good us (bad i p) vs s ts e = denied_select e

tabs_view : (cat : List Table) (b : Block) (us : Tabs) (s : Select) (ts : List Ty) → tables_named cat b.tables ≡ us → with_tabs cat b us ≡ select s ts → ViewGood cat b s ts
unfolding with_tabs
tabs_view cat b (all us) s ts f e =
    let h = test_good us (resolve cat (opened us ∷ []) b.test) (resolve_all cat (opened us ∷ []) b.values) s ts e in
    record {
      there = f ∙ ap all h.0;
      test = ap (λ (w : List TabRef). resolve cat (opened w ∷ []) b.test) (sym h.0) ∙ h.1;
      values = ap (λ (w : List TabRef). resolve_all cat (opened w ∷ []) b.values) (sym h.0) ∙ h.2;
    }
tabs_view cat b (missing p) s ts f e = denied_select e

pub view_good : (cat : List Table) (b : Block) (s : Select) (ts : List Ty) → resolve_view cat b ≡ select s ts → ViewGood cat b s ts
unfolding resolve_view
view_good cat b s ts e = tabs_view cat b (tables_named cat b.tables) s ts refl e

-- THE WALK'S ANSWER on a value that was read: of an accepted one its type and its class's information, and back again.
pub typed_good : (k : ℕ) (cat : List Table) (Γ : List Open) (is : List Info) (P : Parsed Exp) (e : Exp) (next : ℕ) (x : Expr) (t : Ty)
    → P ≡ ok e next → resolve cat Γ e ≡ good x t → typed_by k cat Γ is P ≡ fine (known_of k is next x t)
unfolding typed_by typed_at
typed_good k cat Γ is P e next x t f g = rw (f, g)

pub record GoodAt (k : ℕ) (cat : List Table) (Γ : List Open) (is : List Info) (e : Exp) (next : ℕ) (h : Known) : Type 0 where
  pub x : Expr
  pub t : Ty
  pub resolved : resolve cat Γ e ≡ good x t
  pub known : h ≡ known_of k is next x t

good_at : (k : ℕ) (cat : List Table) (Γ : List Open) (is : List Info) (e : Exp) (next : ℕ) (h : Known) (o : Out)
    → resolve cat Γ e ≡ o → typed_at k is next o ≡ fine h → GoodAt k cat Γ is e next h
unfolding typed_at
good_at k cat Γ is e next h (good x t) f g = record { x = x; t = t; resolved = f; known = (cc) }
good_at k cat Γ is e next h (bad i p) f g = absurd (let z : ◌≡◌ {A = ℕ} 0 1 = cc in omega arith)

pub typed_known : (k : ℕ) (cat : List Table) (Γ : List Open) (is : List Info) (P : Parsed Exp) (e : Exp) (next : ℕ) (h : Known)
    → P ≡ ok e next → typed_by k cat Γ is P ≡ fine h → GoodAt k cat Γ is e next h
unfolding typed_by
typed_known k cat Γ is P e next h f g = good_at k cat Γ is e next h (resolve cat Γ e) refl (rw f at g)

bad_at : (k : ℕ) (is : List Info) (next i p : ℕ) (o : Out) → typed_at k is next o ≡ refusal i p → o ≡ bad i p
unfolding typed_at
bad_at k is next i p (good x t) g = absurd (let z : ◌≡◌ {A = ℕ} 0 1 = cc in omega arith)
bad_at k is next i p (bad j q) g = let a : j ≡ i = cc in let b : q ≡ p = cc in cc

pub typed_refused : (k : ℕ) (cat : List Table) (Γ : List Open) (is : List Info) (P : Parsed Exp) (e : Exp) (next i p : ℕ)
    → P ≡ ok e next → typed_by k cat Γ is P ≡ refusal i p → resolve cat Γ e ≡ bad i p
unfolding typed_by
typed_refused k cat Γ is P e next i p f g = bad_at k is next i p (resolve cat Γ e) (rw f at g)
