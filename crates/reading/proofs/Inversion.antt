-- What a value that is resolved went through, kind by kind, handed on as variables: its children resolved, the rule kept, the expression made of theirs.
-- Assumes nothing.
use Prim.Native.Nat.{ℕ}
use mathlib.Core.Path.{◌≡◌, subst}
use mathlib.Core.List.{List, [], ◌∷◌}
use Rattle.cell.specs.Res.{done}
use Rattle.cell.specs.Types.{digits_of, binop_type, limb_type}
use Rattle.cell.specs.declared.Type.{«Type» as Ty}
use Rattle.cell.specs.declared.Type.TheVariants as T
use Rattle.cell.specs.declared.Value.{Value}
use Rattle.catalogue.specs.Tables.{Table, Column, TabRef}
use Rattle.view.specs.Ast.{TabName, Exp}
use Rattle.view.specs.Ast as ast
use Rattle.view.specs.declared.Fold.{Fold}
use Rattle.view.specs.declared.Pick.{Pick}
use Rattle.scope.specs.Scopes.{Open, local, column, bound, one, find}
use Rattle.scope.specs.Blocks.{all, tables_named, opened}
use Rattle.resolve.specs.Expr.{Expr}
use Rattle.resolve.specs.Expr as expr
use Rattle.resolve.specs.Totals.{fold_type, pick_type}
use Rattle.resolve.specs.Resolve.{good, brought, resolve, goods, resolve_all}
use Rattle.resolve.proofs.Inversion.{const_good, bin_good, neg_good, if_good, exists_good, single_good, pick_same, let_good, ColGood, of_column, of_local, col_good, classof_good, all_good}

module _ {G : Type 0} (cat : List Table) (Γ : List Open) (X : Expr) (U : Ty) where
  pub const_elim : (at : ℕ) (t : Ty) (v : Value) → resolve cat Γ (ast.Exp.const at t v) ≡ good X U →
      (X ≡ expr.Expr.const U v → U ≡ t → G) → G
  const_elim at t v e k = let g = const_good cat Γ X U at t v e in k g.is g.type_is

  pub binop_elim : (at op : ℕ) (l r : Exp) → resolve cat Γ (ast.Exp.binop at op l r) ≡ good X U →
      ((x : Expr) (s : Ty) (y : Expr) (t : Ty) → resolve cat Γ l ≡ good x s → resolve cat Γ r ≡ good y t → binop_type op s t ≡ done U →
      X ≡ expr.Expr.bin op (digits_of U) x y → G) → G
  binop_elim at op l r e k = let g = bin_good cat Γ X U at op l r e in k g.y g.s g.z g.u g.left g.right g.rule g.is

  pub neg_elim : (at : ℕ) (a : Exp) → resolve cat Γ (ast.Exp.neg at a) ≡ good X U →
      ((x : Expr) → resolve cat Γ a ≡ good x T.Boolean → X ≡ expr.Expr.neg x → U ≡ T.Boolean → G) → G
  neg_elim at a e k = let g = neg_good cat Γ X U at a e in k g.y g.operand g.is g.type_is

  pub if_elim : (at : ℕ) (c l r : Exp) → resolve cat Γ (ast.Exp.if at c l r) ≡ good X U →
      ((x y z : Expr) (t u : Ty) → resolve cat Γ c ≡ good x T.Boolean → resolve cat Γ l ≡ good y t → resolve cat Γ r ≡ good z u →
      limb_type t u ≡ done U → X ≡ expr.Expr.if x (brought t U y) (brought u U z) → G) → G
  if_elim at c l r e k =
      let g = if_good cat Γ X U at c l r e in
      k g.w g.y g.z g.s g.u g.condition g.left g.right g.rule g.is

  -- EXISTS and COUNT
  pub exists_elim : (at : ℕ) (f : Fold) (names : List TabName) (w : Exp) → resolve cat Γ (ast.Exp.exists at f names w) ≡ good X U →
      ((ts : List TabRef) (x : Expr) → tables_named cat names ≡ all ts → resolve cat (opened ts ∷ Γ) w ≡ good x T.Boolean →
      X ≡ expr.Expr.exists f ts x → U ≡ fold_type f → G) → G
  exists_elim at f names w e k = let g = exists_good cat Γ X U at f names w e in k g.tabs g.y g.there g.test g.is g.type_is

  -- VALUE, MAX and MIN are of their value's type
  pub single_elim : (at : ℕ) (p : Pick) (names : List TabName) (w v : Exp) → resolve cat Γ (ast.Exp.single at p names w v) ≡ good X U →
      ((ts : List TabRef) (x y : Expr) → tables_named cat names ≡ all ts → resolve cat (opened ts ∷ Γ) w ≡ good x T.Boolean →
      resolve cat (opened ts ∷ Γ) v ≡ good y U → pick_type p U ≡ done U → X ≡ expr.Expr.single p ts x y → G) → G
  single_elim at p names w v e k =
      let g = single_good cat Γ X U at p names w v e in
      let s = pick_same p g.s U g.rule in
      k g.tabs g.y g.z g.there g.test (subst (λ (t : Ty). resolve cat (opened g.tabs ∷ Γ) v ≡ good g.z t) s g.value)
      (subst (λ (t : Ty). pick_type p t ≡ done U) s g.rule) g.is

  -- COL: the one match is a column or a local
  pub col_elim : (at name q : ℕ) → resolve cat Γ (ast.Exp.col at name q) ≡ good X U →
      ((a b c : ℕ) (t : Table) (j : Column) → find name q 0 Γ ≡ one (column a b c t j) → X ≡ expr.Expr.col a b c j.info → U ≡ j.ty → G) →
      ((a : ℕ) → find name q 0 Γ ≡ one (bound a U) → X ≡ expr.Expr.local a → G) → G
  col_elim at name q e k l = go (col_good cat Γ X U at name q e)
    where
      go : ColGood (find name q 0 Γ) X U → G
      go (of_column a b c t j f p r) = k a b c t j f p r
      go (of_local a f p) = l a f p

  -- CLASSOF: the one match is a column
  pub classof_elim : (at name q : ℕ) → resolve cat Γ (ast.Exp.classof at name q) ≡ good X U →
      ((a b c : ℕ) (t : Table) (j : Column) → find name q 0 Γ ≡ one (column a b c t j) → X ≡ expr.Expr.classof a b c t.row → U ≡ T.Class → G) → G
  classof_elim at name q e k =
      let g = classof_good cat Γ X U at name q e in
      k g.a g.b g.c g.table g.col g.found g.is g.type_is

  pub let_elim : (at name : ℕ) (v b : Exp) → resolve cat Γ (ast.Exp.letin at name v b) ≡ good X U →
      ((x : Expr) (s : Ty) (y : Expr) → resolve cat Γ v ≡ good x s → resolve cat (local name s ∷ Γ) b ≡ good y U → X ≡ expr.Expr.letin x y → G) → G
  let_elim at name v b e k = let g = let_good cat Γ X U at name v b e in k g.y g.s g.z g.value g.body g.is

-- ---- SELECT's values

-- each value resolved, with its type
pub data Values (cat : List Table) (Γ : List Open) : List Exp → List Expr → List Ty → Type 0 where
  no_value : Values cat Γ [] [] []
  one_more : {e : Exp} {x : Expr} {t : Ty} {es : List Exp} {xs : List Expr} {ts : List Ty} →
      resolve cat Γ e ≡ good x t → Values cat Γ es xs ts → Values cat Γ (e ∷ es) (x ∷ xs) (t ∷ ts)

more_values : {cat : List Table} {Γ : List Open} {e : Exp} {x : Expr} {t : Ty} {es : List Exp} {ys xs : List Expr} {us ts : List Ty} →
    resolve cat Γ e ≡ good x t → Values cat Γ es ys us → xs ≡ x ∷ ys → ts ≡ t ∷ us → Values cat Γ (e ∷ es) xs ts
more_values f vs p q = rw (p, q) (one_more f vs)

pub values_resolved : (cat : List Table) (Γ : List Open) (es : List Exp) (xs : List Expr) (ts : List Ty) → resolve_all cat Γ es ≡ goods xs ts → Values cat Γ es xs ts
unfolding resolve_all
values_resolved cat Γ [] xs ts e =
    let p : xs ≡ [] = cc in
    let q : ts ≡ [] = cc in
    rw (p, q) no_value
values_resolved cat Γ (a ∷ es) xs ts e =
    let g = all_good cat Γ a es xs ts e in
    more_values g.first (values_resolved cat Γ es g.ys g.us g.others) g.is g.types
