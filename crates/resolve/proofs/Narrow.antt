-- The type of a value that keeps the rules is narrow, p and s below 16, whatever the catalogue: a column has them from one byte, a constant by its rule.
-- Assumes nothing.
use Prim.Native.Nat.{ℕ, zero, suc, ◌+◌, ◌-◌, ◌/◌, ◌%◌, ◌<◌, max, min}
use mathlib.Core.Path.{◌≡◌, refl, sym, ap, ◌∙◌, subst}
use mathlib.Core.Bool.{Bool, true, false, cond}
use mathlib.Core.List.{List, [], ◌∷◌}
use native.Mathlib.Omega.{arith}
use native.Mathlib.Decide.{dec_lt}
use lib.Dec.{eqb}
use lib.ListN.{length, get_or, set}
use lib.Seq.{get_or-set_same, get_or-set_other}
use Rattle.word.specs.Record.{kind_at, c_at}
use Rattle.class.specs.declared.Info.{Info}
use Rattle.cell.specs.Res.{done}
use Rattle.cell.specs.Types.{in_rule, type_by, digits_of, scale_of, binop_type, limb_type}
use Rattle.cell.specs.declared.Type.{«Type» as Ty}
use Rattle.cell.specs.declared.Type.TheVariants as T
use Rattle.cell.proofs.Judging.{rule_sum, rule_product, rule_logic, rule_below, rule_equal, rule_above, rule_none, rule_past}
use Rattle.cell.proofs.Typing.{digits_facts, Group, below_all, sums, products, logics, orders_below, equals, orders_above, above_all, group, SumTy, sum_fixed, sum_time, sum_interval, sum_ty, ProductTy, fixed_product, interval_product, product_ty, logic_ty, order_ty, equal_ty, never, LimbTy, limb_fixed, limb_same, limb_ty}
use Rattle.catalogue.specs.Tables.{Table, Column, column_at, cols_from, table_at, tables_from}
use Rattle.view.specs.Ast.{Exp, ok}
use Rattle.view.specs.Record.{node_at}
use Rattle.view.specs.Parse.{parse_value}
use Rattle.view.specs.declared.Fold.{Fold}
use Rattle.view.specs.declared.Fold.TheVariants as fold
use Rattle.view.specs.declared.Node.TheVariants.{Exists}
use Rattle.view.proofs.Constants.{ruled_at}
use Rattle.view.proofs.Says.{exists_digits}
use Rattle.scope.specs.Table.{tabs_at, open_of, blank, scopes_of}
use Rattle.scope.specs.Entry.{local_scope, table_in, type_in}
use Rattle.scope.specs.declared.Scope.{Scope}
use Rattle.scope.specs.declared.Scope.TheVariants as S
use Rattle.scope.proofs.Locals.{local_type}
use Rattle.resolve.specs.Expr.{Expr}
use Rattle.resolve.specs.Totals.{fold_type}
use Rattle.resolve.specs.Resolve.{good, resolve}
use Rattle.resolve.specs.Claims.{Narrow}
use Rattle.resolve.proofs.Kept as kept

-- ---- types

narrow_null : Narrow T.Null
unfolding digits_of scale_of
narrow_null = record { digits = omega arith; scale = omega arith }

narrow_boolean : Narrow T.Boolean
unfolding digits_of scale_of
narrow_boolean = record { digits = omega arith; scale = omega arith }

narrow_class : Narrow T.Class
unfolding digits_of scale_of
narrow_class = record { digits = omega arith; scale = omega arith }

narrow_time : (f : ℕ) → Narrow (T.Time f)
unfolding digits_of scale_of
narrow_time f = record { digits = omega arith; scale = omega arith }

narrow_interval : (f : ℕ) → Narrow (T.Interval f)
unfolding digits_of scale_of
narrow_interval f = record { digits = omega arith; scale = omega arith }

narrow_fixed : (p s : ℕ) → p < 16 → s < 16 → Narrow (T.Fixed p s)
unfolding digits_of scale_of
narrow_fixed p s h k = record { digits = h; scale = k }

narrow_wider : (p s q r : ℕ) → Narrow (T.Fixed p s) → Narrow (T.Fixed q r) → Narrow (T.Fixed (max p q) (max s r))
unfolding digits_of scale_of
narrow_wider p s q r h k = record { digits = omega arith; scale = omega arith }

-- in rule is narrow
rule_narrow : (t : Ty) → in_rule t ≡ true → Narrow t
unfolding in_rule
rule_narrow T.Null e = narrow_null
rule_narrow T.Boolean e = narrow_boolean
rule_narrow (T.Fixed p s) e = let h = digits_facts p s e in narrow_fixed p s (omega arith) (omega arith)
rule_narrow (T.Time f) e = narrow_time f
rule_narrow (T.Interval f) e = narrow_interval f
rule_narrow T.Class e = narrow_class

either : (b : Bool) (s t : Ty) → Narrow s → Narrow t → Narrow (cond b s t)
either true s t h k = h
either false s t h k = k

-- a type word's low byte has p and s
by_narrow : (high low : ℕ) → low < 256 → Narrow (type_by high low)
unfolding type_by
by_narrow high low h =
    either (eqb high 1) _ _ narrow_boolean
    (either (eqb high 2) _ _ (narrow_fixed (low / 16) (low % 16) (omega arith) (omega arith))
    (either (eqb high 3) _ _ (narrow_time low)
    (either (eqb high 4) _ _ (narrow_interval low)
    (either (eqb high 5) _ _ narrow_class narrow_null))))

-- ---- the rules

sum_narrow : {s t r : Ty} → SumTy s t r → Narrow s → Narrow t → Narrow r
sum_narrow (sum_fixed {p = p} {s = s} {q = q} {r = r}) f g = narrow_wider p s q r f g
sum_narrow sum_time f g = f
sum_narrow sum_interval f g = f

product_narrow : {s t r : Ty} → ProductTy s t r → Narrow s → Narrow t → Narrow r
product_narrow (fixed_product {p = p} {s = s} {q = q} {r = r}) f g = narrow_wider p s q r f g
product_narrow interval_product f g = f

boolean : {r : Ty} → T.Boolean ≡ r → Narrow r
boolean e = subst Narrow e narrow_boolean

binop_narrow : (op : ℕ) (s t r : Ty) → binop_type op s t ≡ done r → Narrow s → Narrow t → Narrow r
binop_narrow op s t r e f g = go (group op)
  where
    go : Group op → Narrow r
    go (below_all a) = never (sym (rule_none op s t a) ∙ e)
    go (sums a b) = sum_narrow (sum_ty s t r (sym (rule_sum op s t a b) ∙ e)) f g
    go (products a b) = product_narrow (product_ty s t r (sym (rule_product op s t a b) ∙ e)) f g
    go (logics a b) = boolean (logic_ty s t r (sym (rule_logic op s t a b) ∙ e)).1
    go (orders_below a b) = boolean (order_ty s t r (sym (rule_below op s t a b) ∙ e)).1
    go (equals a b) = boolean (equal_ty s t r (sym (rule_equal op s t a b) ∙ e)).1
    go (orders_above a b) = boolean (order_ty s t r (sym (rule_above op s t a b) ∙ e)).1
    go (above_all a) = never (sym (rule_past op s t a) ∙ e)

limb_narrow : (s t r : Ty) → limb_type s t ≡ done r → Narrow s → Narrow t → Narrow r
limb_narrow s t r e f g = go (limb_ty s t r e) f g
  where
    go : {x y z : Ty} → LimbTy x y z → Narrow x → Narrow y → Narrow z
    go (limb_fixed {p = p} {s = a} {q = q} {r = b}) h k = narrow_wider p a q b h k
    go limb_same h k = h

-- EXISTS, and COUNT by its record
fold_narrow : (v : List ℕ) (i a : ℕ) (q : Fold) → node_at v i ≡ Exists a q → Narrow (fold_type q)
unfolding fold_type
fold_narrow v i a fold.Any e = narrow_boolean
fold_narrow v i a (fold.Count p) e = let h = exists_digits v i refl e in narrow_fixed p 0 (omega arith) (omega arith)

-- ---- tables and open scopes

cols_narrow : (c : List ℕ) (k i : ℕ) → kept.Columns Narrow (cols_from c k i)
unfolding cols_from column_at
cols_narrow c zero i = tt
cols_narrow c (suc k) i = go (eqb (kind_at c i) 2) (cols_from c k (i + 1)) (cols_narrow c k (i + 1))
  where
    go : (b : Bool) (ks : List Column) → kept.Columns Narrow ks → kept.Columns Narrow (cond b (column_at c i ∷ ks) [])
    go true ks h = (by_narrow (c_at c i / 256) (c_at c i % 256) (omega arith), h)
    go false ks h = tt

table_narrow : (c : List ℕ) (n i : ℕ) → kept.Columns Narrow (table_at c n i).cols
unfolding table_at
table_narrow c n i = cols_narrow c (n - (i + 1)) (i + 1)

tables_narrow : (c : List ℕ) (n k i : ℕ) → kept.Tables Narrow (tables_from c n k i)
unfolding tables_from
tables_narrow c n zero i = tt
tables_narrow c n (suc k) i = go (eqb (kind_at c i) 1) (tables_from c n k (i + 1)) (tables_narrow c n k (i + 1))
  where
    go : (b : Bool) (ts : List Table) → kept.Tables Narrow ts → kept.Tables Narrow (cond b (table_at c n i ∷ ts) ts)
    go true ts h = (table_narrow c n i, h)
    go false ts h = h

tabs_narrow : (c : List ℕ) (n : ℕ) (s : Scope) (i k : ℕ) → kept.Tables Narrow (tabs_at c n s i k)
unfolding tabs_at
tabs_narrow c n s i zero = tt
tabs_narrow c n s i (suc k) = (table_narrow c n (table_in s i), tabs_narrow c n s (i + 1) k)

open_narrow : (c : List ℕ) (n : ℕ) (s : Scope) → Narrow (type_in s) → kept.Scope Narrow (open_of c n s)
unfolding open_of type_in
open_narrow c n (S.Block b) h = tabs_narrow c n (S.Block b) 0 (min b.count 4)
open_narrow c n (S.Local l) h = h

scopes_narrow : (c : List ℕ) (n : ℕ) (t : List Scope) (deep : ℕ) → ((j : ℕ) → j < deep → Narrow (type_in (get_or t j blank))) → kept.Scopes Narrow (scopes_of c n t deep)
unfolding scopes_of
scopes_narrow c n t zero h = tt
scopes_narrow c n t (suc deep) h = (open_narrow c n (get_or t deep blank) (h deep (omega arith)), scopes_narrow c n t deep (λ j l. h j (omega arith)))

-- one more scope open
pub narrow_push : (t u : List Scope) (deep : ℕ) (s : Scope) → u ≡ set t deep s → deep < length t → Narrow (type_in s)
    → ((j : ℕ) → j < deep → Narrow (type_in (get_or t j blank))) → (j : ℕ) → j < deep + 1 → Narrow (type_in (get_or u j blank))
narrow_push t u deep s e l h k j b = go (dec_lt j deep)
  where
    go : Dec (j < deep) → Narrow (type_in (get_or u j blank))
    go (yes a) = let z : (j ≡ deep → ⊥) = omega arith in rw (e, get_or-set_other t deep j s blank z) (k j a)
    go (no a) = let z : j ≡ deep = omega arith in rw (e, z, get_or-set_same t deep s blank l) h

-- a block's entry has no type of its own
pub narrow_entry : (s : Scope) → type_in s ≡ T.Null → Narrow (type_in s)
narrow_entry s e = subst Narrow (sym e) narrow_null

-- a local's entry has its type
pub narrow_local : (name : ℕ) (t : Ty) (i : Info) (s : Scope) → s ≡ local_scope name t i → Narrow t → Narrow (type_in s)
narrow_local name t i s e h = subst Narrow (sym (ap type_in e ∙ local_type name t i)) h

-- THE LAW
pub narrow_type : (c : List ℕ) (nc : ℕ) (v : List ℕ) (n : ℕ) (t : List Scope) (deep d at : ℕ) (e : Exp) (k : ℕ) (X : Expr) (U : Ty)
    → ((j : ℕ) → j < deep → Narrow (type_in (get_or t j blank))) → parse_value v n d at ≡ ok e k
    → resolve (tables_from c nc nc 0) (scopes_of c nc t deep) e ≡ good X U → Narrow U
narrow_type c nc v n t deep d at e k X U w r g =
    kept.kept Narrow narrow_boolean narrow_class binop_narrow limb_narrow (tables_from c nc nc 0) (tables_narrow c nc nc 0) v n
    (λ i s x e. rule_narrow s (ruled_at v i (sym e) refl)) (fold_narrow v) d at r
    (scopes_of c nc t deep) (scopes_narrow c nc t deep w) X U g
