-- The data tree of a value that is resolved is never stuck: it gives what the plain reading gives, null or of the type.
-- Assumes nothing.
use Prim.Native.Nat.{ℕ}
use mathlib.Core.Path.{◌≡◌, refl, ap}
use mathlib.Core.Bool.{Bool, true, false, cond}
use mathlib.Core.List.{List, ◌∷◌, map}
use mathlib.Core.Option.{none}
use Rattle.class.specs.declared.Info.{Info}
use Rattle.class.specs.declared.Info.TheVariants.{Fixed}
use Rattle.cell.specs.Res.{Res, done, bind, or_else}
use Rattle.cell.specs.Types.{digits_of, scale_of, same_type}
use Rattle.cell.specs.Values.{HasTy, ok_class}
use Rattle.cell.specs.Apply.{apply, settled, convert, as_cond}
use Rattle.cell.specs.declared.Type.{«Type» as Ty}
use Rattle.cell.specs.declared.Type.TheVariants as T
use Rattle.cell.specs.declared.Value.{Value}
use Rattle.cell.specs.declared.Value.TheVariants as X
use Rattle.cell.proofs.Sound.{Gives, apply_sound, negate_sound, cond_sound, same_has, wider_left, wider_right, settled_apply}
use Rattle.catalogue.specs.Tables.{Table}
use Rattle.store.specs.Rows.{Row, All2}
use Rattle.view.specs.Ast.{Exp}
use Rattle.view.specs.Ast as ast
use Rattle.scope.specs.Scopes.{column, bound}
use Rattle.resolve.specs.Expr.{Expr}
use Rattle.resolve.specs.Expr as expr
use Rattle.resolve.specs.Resolve.{good, brought, resolve}
use Rattle.tree.specs.Trans.{expr_data}
use Rattle.run.specs.Run.{run}
use Rattle.run.specs.Run as machine
use Rattle.reading.specs.Reading.{Frame, rows, known, scope_of, type_out, tabs_out, rows_over, is_true, keep, to_type, eval, reads}
use Rattle.reading.proofs.Lists.{all_imp, all_map, all_keep}
use Rattle.reading.proofs.Inversion.{const_elim, binop_elim, neg_elim, if_elim, exists_elim, single_elim, col_elim, classof_elim, let_elim}
use Rattle.reading.proofs.Names.{found_stands, tables_ok}
use Rattle.reading.proofs.WellTyped.{TablesRule, ConstsOk, tables_rule, well_typed}
use Rattle.reading.proofs.Scopes.{RowGood, StoreGood, tables_of, Match, m_rows, m_known, Free, scopes_rule, frame_known, cell_found, block_ok}
use Rattle.reading.proofs.References.{column_value, classof_value, local_value}
use Rattle.reading.proofs.Folds.{fold_is, fold_typed, pick_is, pick_typed}

-- the outcome of a tree is that value, null or of the type
abbrev pub Good : Ty → Res Value → Value → Type 0
Good t r v = (r ≡ done v) × HasTy t v

-- from an outcome to what the plain reading takes of it
take : {t : Ty} {r : Res Value} → Gives t r → Good t r (or_else X.Null r)
unfolding or_else
take (v, e, h) = rw e (refl, h)

pub cond_run : {r : Res Value} {v : Value} → Good T.Boolean r v → bind r as_cond ≡ done (is_true v)
unfolding bind is_true or_else
cond_run (e, h) = let (t, c) = cond_sound h in rw (e, c)

-- BINOP stops where its left operand decides
binop_good : (op p : ℕ) (t : Ty) (u v : Value) → Gives t (apply op p u v) →
    Good t (cond (settled op u) (done u) (apply op p u v)) (or_else X.Null (apply op p u v))
unfolding or_else
binop_good op p t u v g = go (settled op u) refl
  where
    go : (z : Bool) → settled op u ≡ z → Good t (cond z (done u) (apply op p u v)) (or_else X.Null (apply op p u v))
    go true q = let e = settled_apply op p u v q in rw (← e) (take g)
    go false q = take g

if_good : {t : Ty} {r s : Res Value} {u v : Value} (b : Bool) → Good t r u → Good t s v → Good t (cond b r s) (cond b u v)
if_good true g h = g
if_good false g h = h

-- a limb brought to IF's type
limb_good : (st : List (List Row)) (σ : List machine.Frame) (t r : Ty) (x : Expr) (v : Value) →
    (same_type t r ≡ false → Gives r (convert (digits_of r) (scale_of r) v)) → Good t (run st (expr_data x) σ) v →
    Good r (run st (expr_data (brought t r x)) σ) (to_type t r v)
unfolding brought to_type expr_data run bind
limb_good st σ t r x v c (e, h) = go (same_type t r) refl
  where
    go : (z : Bool) → same_type t r ≡ z →
        Good r (run st (expr_data (cond z x (expr.Expr.conv (digits_of r) (scale_of r) x))) σ)
        (cond z v (or_else X.Null (convert (digits_of r) (scale_of r) v)))
    go true q = (e, same_has t r q h)
    go false q = rw e (take (c q))

-- LET's body is read with its local known: the value's type, value and all that it read
module _ (cat : List Table) (k : ℕ) (st : List (List Row)) (ρ : List Frame) (at name : ℕ) (v b : Exp) (x : Expr) (s : Ty) (e : resolve cat (map scope_of ρ) v ≡ good x s) where
  pub let_value : eval cat k st ρ (ast.Exp.letin at name v b) ≡ eval cat k st (known name s (eval cat k st ρ v) (reads cat k st ρ v) ∷ ρ) b
  unfolding eval type_out
  let_value = ap (λ z. eval cat k st (known name (type_out z) (eval cat k st ρ v) (reads cat k st ρ v) ∷ ρ) b) e

  pub let_reads : reads cat k st ρ (ast.Exp.letin at name v b) ≡ reads cat k st (known name s (eval cat k st ρ v) (reads cat k st ρ v) ∷ ρ) b
  unfolding eval type_out
  let_reads = ap (λ z. reads cat k st (known name (type_out z) (eval cat k st ρ v) (reads cat k st ρ v) ∷ ρ) b) e

module _ (cat : List Table) (k : ℕ) (st : List (List Row)) (accepted : StoreGood cat st) (ruled : TablesRule cat) where
  pub data_ok : (e : Exp) → ConstsOk e → (is : List Info) (ρ : List Frame) (σ : List machine.Frame) (X : Expr) (U : Ty) →
      resolve cat (map scope_of ρ) e ≡ good X U → Match Free is ρ σ → Good U (run st (expr_data X) σ) (eval cat k st ρ e)
  unfolding run expr_data eval ConstsOk bind or_else scope_of type_out tabs_out is_true
  data_ok (ast.Exp.const at t v) h is ρ σ X U e m = const_elim cat (map scope_of ρ) X U at t v e λ p q. rw (p, q) (refl, h.0)
  data_ok (ast.Exp.binop at op a b) h is ρ σ X U e m =
      binop_elim cat (map scope_of ρ) X U at op a b e λ x s y t e₁ e₂ e₃ p.
      let (ea, ta) = data_ok a h.0 is ρ σ x s e₁ m in
      let (eb, tb) = data_ok b h.1 is ρ σ y t e₂ m in
      rw (e, p, ea, eb) (binop_good op (digits_of U) U (eval cat k st ρ a) (eval cat k st ρ b) (apply_sound op s t U e₃ ta tb))
  data_ok (ast.Exp.neg at a) h is ρ σ X U e m =
      neg_elim cat (map scope_of ρ) X U at a e λ x e₁ p q.
      let (ea, ta) = data_ok a h is ρ σ x T.Boolean e₁ m in
      rw (p, q, ea) (take (negate_sound ta))
  data_ok (ast.Exp.if at c a b) h is ρ σ X U e m =
      if_elim cat (map scope_of ρ) X U at c a b e λ x y z t u e₁ e₂ e₃ e₄ p.
      let (ec, tc) = data_ok c h.0 is ρ σ x T.Boolean e₁ m in
      let ga = data_ok a h.1 is ρ σ y t e₂ m in
      let gb = data_ok b h.2 is ρ σ z u e₃ m in
      let (w, ew) = cond_sound tc in
      let r = well_typed cat ruled (ast.Exp.if at c a b) h (map scope_of ρ) (scopes_rule m) X U e in
      rw (e, e₂, e₃, p, ec, ew)
      (if_good w
      (limb_good st σ t U y (eval cat k st ρ a) (λ q. wider_left t u U e₄ r q ga.1) ga)
      (limb_good st σ u U z (eval cat k st ρ b) (λ q. wider_right t u U e₄ r q gb.1) gb))
  data_ok (ast.Exp.exists at f names w) h is ρ σ X U e m =
      exists_elim cat (map scope_of ρ) X U at f names w e λ ts x e₁ e₂ p q.
      let (er, oks) = block_ok cat st accepted ts (tables_ok cat names ts e₁) in
      let ws = all_imp (λ rs. All2 RowGood (tables_of ts) rs)
      (λ rs. bind (run st (expr_data x) (machine.Frame.rows rs ∷ σ)) as_cond ≡ done (is_true (eval cat k st (rows ts rs ∷ ρ) w)))
      (λ rs ok. cond_run (data_ok w h.1 (Fixed 0 ∷ is) (rows ts rs ∷ ρ) (machine.Frame.rows rs ∷ σ) x T.Boolean e₂ (m_rows (tables_rule cat names ts ruled e₁) ok m)))
      (rows_over st ts) oks in
      rw (e₁, p, q, er, fold_is f (λ rs. bind (run st (expr_data x) (machine.Frame.rows rs ∷ σ)) as_cond) (λ rs. is_true (eval cat k st (rows ts rs ∷ ρ) w)) (rows_over st ts) ws)
      (refl, fold_typed f (map (λ rs. is_true (eval cat k st (rows ts rs ∷ ρ) w)) (rows_over st ts)) h.0)
  data_ok (ast.Exp.single at g names w v) h is ρ σ X U e m =
      single_elim cat (map scope_of ρ) X U at g names w v e λ ts x y e₁ e₂ e₃ o p.
      let (er, oks) = block_ok cat st accepted ts (tables_ok cat names ts e₁) in
      let r = tables_rule cat names ts ruled e₁ in
      let u = well_typed cat ruled (ast.Exp.single at g names w v) h (map scope_of ρ) (scopes_rule m) X U e in
      let ws = all_imp (λ rs. All2 RowGood (tables_of ts) rs)
      (λ rs. bind (run st (expr_data x) (machine.Frame.rows rs ∷ σ)) as_cond ≡ done (is_true (eval cat k st (rows ts rs ∷ ρ) w)))
      (λ rs ok. cond_run (data_ok w h.0 (Fixed 0 ∷ is) (rows ts rs ∷ ρ) (machine.Frame.rows rs ∷ σ) x T.Boolean e₂ (m_rows r ok m)))
      (rows_over st ts) oks in
      let vs = all_imp (λ rs. All2 RowGood (tables_of ts) rs)
      (λ rs. Good U (run st (expr_data y) (machine.Frame.rows rs ∷ σ)) (eval cat k st (rows ts rs ∷ ρ) v))
      (λ rs ok. data_ok v h.1 (Fixed 0 ∷ is) (rows ts rs ∷ ρ) (machine.Frame.rows rs ∷ σ) y U e₃ (m_rows r ok m))
      (rows_over st ts) oks in
      let bs : List Bool = map (λ rs. is_true (eval cat k st (rows ts rs ∷ ρ) w)) (rows_over st ts) in
      rw (
        e₁,
        p,
        er,
        pick_is g U u o (λ rs. bind (run st (expr_data x) (machine.Frame.rows rs ∷ σ)) as_cond) (λ rs. run st (expr_data y) (machine.Frame.rows rs ∷ σ))
            (λ rs. is_true (eval cat k st (rows ts rs ∷ ρ) w)) (λ rs. eval cat k st (rows ts rs ∷ ρ) v) (rows_over st ts) ws vs,
      ) (
        refl,
        pick_typed g U (map (λ rs. eval cat k st (rows ts rs ∷ ρ) v) (keep bs (rows_over st ts)))
            (all_map (HasTy U) (λ rs. eval cat k st (rows ts rs ∷ ρ) v) (keep bs (rows_over st ts))
            (all_keep (λ rs. HasTy U (eval cat k st (rows ts rs ∷ ρ) v)) bs (rows_over st ts)
            (all_imp _ (λ rs. HasTy U (eval cat k st (rows ts rs ∷ ρ) v)) (λ rs g. g.1) (rows_over st ts) vs))),
      )
  data_ok (ast.Exp.col at name q) h is ρ σ X U e m =
      col_elim cat (map scope_of ρ) X U at name q e
      (λ a b c t j f p g.
      let (x, i, o, ok, small) = cell_found m a b c t j (found_stands name q (map scope_of ρ) (column a b c t j) f) in
      rw (f, p, g, column_value ρ a b c t j x i, o) (refl, ok.0))
      (λ a f p.
      let (n, s) = found_stands name q (map scope_of ρ) (bound a U) f in
      let (v, xs, c, i, o, ok, _) = frame_known m a n U s in
      rw (f, p, local_value ρ a U v xs i, o) (refl, ok))
  data_ok (ast.Exp.classof at name q) h is ρ σ X U e m =
      classof_elim cat (map scope_of ρ) X U at name q e λ a b c t j f p g.
      let (x, i, o, ok, small) = cell_found m a b c t j (found_stands name q (map scope_of ρ) (column a b c t j) f) in
      rw (f, p, g, classof_value ρ a b c t j x i, o) (refl, ok_class small)
  data_ok (ast.Exp.letin at name v b) h is ρ σ X U e m =
      let_elim cat (map scope_of ρ) X U at name v b e λ x s y e₁ e₂ p.
      let (ev, tv) = data_ok v h.0 is ρ σ x s e₁ m in
      let r = well_typed cat ruled v h.0 (map scope_of ρ) (scopes_rule m) x s e₁ in
      rw (let_value cat k st ρ at name v b x s e₁, p, ev)
      (data_ok b h.1 (Fixed 0 ∷ is) (known name s (eval cat k st ρ v) (reads cat k st ρ v) ∷ ρ) (machine.Frame.local (eval cat k st ρ v) none ∷ σ) y U e₂
      (m_known tv r tt m))
