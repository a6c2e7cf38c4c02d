-- Names and types (6 to 9): the resolved expression and its type, or a refusal. Children left to right, before their parent.
-- Assumes nothing.
use Rattle.std.specs.Prelude.{ℕ, cond, List, [], ◌∷◌, eqb}
use Rattle.cell.specs.Res.{Res, stuck, done}
use Rattle.cell.specs.Types.{kind_of, digits_of, scale_of, binop_type, limb_type, same_type}
use Rattle.cell.specs.declared.Type.{«Type» as Ty}
use Rattle.cell.specs.declared.Type.TheVariants as T
use Rattle.catalogue.specs.Tables.{Table, TabRef}
use Rattle.view.specs.Ast.{TabName, Exp, Block}
use Rattle.view.specs.Ast as ast
use Rattle.scope.specs.Scopes.{Open, local, Hit, column, bound, Only, none, one, more, find}
use Rattle.scope.specs.Blocks.{Tabs, all, missing, tables_named, opened}
use Rattle.resolve.specs.Expr.{Expr, Select}
use Rattle.resolve.specs.Expr as expr
use Rattle.resolve.specs.Totals.{fold_type, pick_type}

-- an expression with its type, or a refusal: number and place
pub data Out : Type 0 where
  good : Expr → Ty → Out
  bad : ℕ → ℕ → Out

-- go on with what was found; a refusal ends it
unfoldable pub then : Out → (Expr → Ty → Out) → Out
then (good x t) f = f x t
then (bad number place) f = bad number place

-- COL: a column or a local; none is 7, more is 8
unfoldable pub col_out : ℕ → Only Hit → Out
col_out at none = bad 7 at
col_out at (one (column a b c t k)) = good (expr.Expr.col a b c k.info) k.ty
col_out at (one (bound a t)) = good (expr.Expr.local a) t
col_out at more = bad 8 at

-- CLASSOF: a local counts as no column
unfoldable pub class_out : ℕ → Only Hit → Out
class_out at none = bad 7 at
class_out at (one (column a b c t k)) = good (expr.Expr.classof a b c t.row) T.Class
class_out at (one (bound a t)) = bad 7 at
class_out at more = bad 8 at

-- the tables of a block; 6 at the first that is not in the catalogue
unfoldable pub on_tabs : Tabs → (List TabRef → Out) → Out
on_tabs (all ts) f = f ts
on_tabs (missing p) f = bad 6 p

-- a type rule: 9 at the operator's record where it is broken
unfoldable pub ruled : ℕ → Res Ty → (Ty → Out) → Out
ruled at stuck f = bad 9 at
ruled at (done t) f = f t

unfoldable pub need_bool : ℕ → Ty → Out → Out
need_bool at t o = cond (eqb (kind_of t) 1) o (bad 9 at)

-- a limb of another (p, s) gets CONV
unfoldable pub brought : Ty → Ty → Expr → Expr
brought t r x = cond (same_type t r) x (expr.Expr.conv (digits_of r) (scale_of r) x)

-- THE RULES, over a catalogue and the open scopes, innermost first
unfoldable pub resolve : List Table → List Open → Exp → Out
resolve cat Γ (ast.Exp.const at t v) = good (expr.Expr.const t v) t
resolve cat Γ (ast.Exp.binop at op l r) =
    then (resolve cat Γ l) (λ x s.
    then (resolve cat Γ r) (λ y t.
    ruled at (binop_type op s t) (λ u. good (expr.Expr.bin op (digits_of u) x y) u)))
resolve cat Γ (ast.Exp.neg at e) =
    then (resolve cat Γ e) (λ x t.
    need_bool at t (good (expr.Expr.neg x) T.Boolean))
resolve cat Γ (ast.Exp.if at c l r) =
    then (resolve cat Γ c) (λ x s.
    then (resolve cat Γ l) (λ y t.
    then (resolve cat Γ r) (λ z u.
    need_bool at s (ruled at (limb_type t u) (λ w. good (expr.Expr.if x (brought t w y) (brought u w z)) w)))))
resolve cat Γ (ast.Exp.exists at f names w) =
    on_tabs (tables_named cat names) (λ ts.
    then (resolve cat (opened ts ∷ Γ) w) (λ x t.
    need_bool at t (good (expr.Expr.exists f ts x) (fold_type f))))
resolve cat Γ (ast.Exp.single at g names w v) =
    on_tabs (tables_named cat names) (λ ts.
    then (resolve cat (opened ts ∷ Γ) w) (λ x s.
    then (resolve cat (opened ts ∷ Γ) v) (λ y t.
    need_bool at s (ruled at (pick_type g t) (λ u. good (expr.Expr.single g ts x y) u)))))
resolve cat Γ (ast.Exp.col at name q) = col_out at (find name q 0 Γ)
resolve cat Γ (ast.Exp.classof at name q) = class_out at (find name q 0 Γ)
resolve cat Γ (ast.Exp.letin at name v b) =
    then (resolve cat Γ v) (λ x s.
    then (resolve cat (local name s ∷ Γ) b) (λ y t.
    good (expr.Expr.letin x y) t))

-- THE VIEW resolved: SELECT with the types of its values, or a refusal
pub data Outs : Type 0 where
  goods : List Expr → List Ty → Outs
  bads : ℕ → ℕ → Outs

unfoldable pub also_out : Out → Outs → Outs
also_out (good x t) (goods xs ts) = goods (x ∷ xs) (t ∷ ts)
also_out (good x t) (bads number place) = bads number place
also_out (bad number place) rest = bads number place

unfoldable pub resolve_all : List Table → List Open → List Exp → Outs
resolve_all cat Γ [] = goods [] []
resolve_all cat Γ (e ∷ es) = also_out (resolve cat Γ e) (resolve_all cat Γ es)

pub data Resolved : Type 0 where
  select : Select → List Ty → Resolved
  refused : ℕ → ℕ → Resolved

unfoldable pub with_values : List TabRef → Expr → Ty → Outs → Resolved
with_values ts x s (goods ys tys) = cond (eqb (kind_of s) 1) (select (record { from = ts; test = x; values = ys }) tys) (refused 9 0)
with_values ts x s (bads number place) = refused number place

unfoldable pub with_test : List TabRef → Out → Outs → Resolved
with_test ts (good x s) vs = with_values ts x s vs
with_test ts (bad number place) vs = refused number place

unfoldable pub with_tabs : List Table → Block → Tabs → Resolved
with_tabs cat b (all ts) = with_test ts (resolve cat (opened ts ∷ []) b.test) (resolve_all cat (opened ts ∷ []) b.values)
with_tabs cat b (missing p) = refused 6 p

unfoldable pub resolve_view : List Table → Block → Resolved
resolve_view cat b = with_tabs cat b (tables_named cat b.tables)
