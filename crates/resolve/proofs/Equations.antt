-- ONE EQUATION FOR EACH KIND: the walk's answer at a record, from its answers at the children.
-- Assumes nothing.
use Prim.Native.Nat.{ℕ, ◌+◌}
use mathlib.Core.Path.{◌≡◌, refl, ap, ◌∙◌}
use mathlib.Core.Bool.{Bool, true, false, cond}
use mathlib.Core.List.{List, ◌∷◌}
use lib.Dec.{eqb}
use Rattle.word.specs.Refusal.{Checked, fine, refusal}
use Rattle.class.specs.declared.Info.{Info}
use Rattle.class.specs.declared.Info.TheVariants.{Fixed}
use Rattle.cell.specs.Res.{Res, stuck, done}
use Rattle.cell.specs.Types.{kind_of, digits_of, binop_type, limb_type}
use Rattle.cell.specs.declared.Type.{«Type» as Ty}
use Rattle.cell.specs.declared.Type.TheVariants as T
use Rattle.cell.specs.declared.Value.{Value}
use Rattle.catalogue.specs.Tables.{Table, TabRef}
use Rattle.view.specs.Ast.{TabName, Exp, Parsed, ok}
use Rattle.view.specs.Ast as ast
use Rattle.view.specs.declared.Fold.{Fold}
use Rattle.view.specs.declared.Pick.{Pick}
use Rattle.view.proofs.Read.{One, Two, Three}
use Rattle.scope.specs.Scopes.{Open, local, Hit, column, bound, Only, none, one, more, find}
use Rattle.scope.specs.Table.{found_of}
use Rattle.scope.specs.Blocks.{all, missing, tables_named, opened}
use Rattle.resolve.specs.Expr.{Expr}
use Rattle.resolve.specs.Totals.{fold_type, pick_type}
use Rattle.resolve.specs.Resolve.{Out, good, bad, then, col_out, class_out, on_tabs, ruled, need_bool, brought, resolve}
use Rattle.resolve.specs.Typed.{known_of, typed_at, typed_by}
use Rattle.resolve.specs.Steps.{leaf_k, brought_k, if_k, let_k, ruled_t, bool_t, two_t, not_t, if_t, exists_t, single_t, col_t, class_t}
use Rattle.resolve.specs.declared.Known.{Known}
use Rattle.resolve.proofs.Weights.{const_known, col_known, classof_known, local_known, bin_known, neg_known, brought_known, if_known, let_known, exists_known, single_known}

-- the walk's answers in a row: a refusal ends it
unfoldable pub then_t : Checked Known → (Known → Checked Known) → Checked Known
then_t (fine x) g = g x
then_t (refusal number place) g = refusal number place

module _ (k : ℕ) (is : List Info) (next : ℕ) where
  -- a child may stand in a scope of its own
  then_typed : (inner : List Info) (m : ℕ) (o : Out) (f : Expr → Ty → Out) (g : Known → Checked Known)
      → ((x : Expr) (t : Ty) → typed_at k is next (f x t) ≡ g (known_of k inner m x t)) → typed_at k is next (then o f) ≡ then_t (typed_at k inner m o) g
  unfolding then then_t typed_at
  then_typed inner m (good x t) f g h = h x t
  then_typed inner m (bad i p) f g h = refl

  ruled_typed : (at : ℕ) (r : Res Ty) (f : Ty → Out) (g : Ty → Known) → ((t : Ty) → typed_at k is next (f t) ≡ fine (g t)) → typed_at k is next (ruled at r f) ≡ ruled_t at r g
  unfolding ruled ruled_t
  ruled_typed at stuck f g h = unfold typed_at in refl
  ruled_typed at (done t) f g h = h t

  bool_typed : (at : ℕ) (t : Ty) (o : Out) → typed_at k is next (need_bool at t o) ≡ bool_t at t (typed_at k is next o)
  unfolding need_bool bool_t
  bool_typed at t o = go (eqb (kind_of t) 1)
    where
      go : (b : Bool) → typed_at k is next (cond b o (bad 9 at)) ≡ cond b (typed_at k is next o) (refusal 9 at)
      go true = refl
      go false = unfold typed_at in refl

  good_typed : (x : Expr) (t : Ty) (h : Known) → known_of k is next x t ≡ h → typed_at k is next (good x t) ≡ fine h
  unfolding typed_at
  good_typed x t h e = ap fine e

-- over a catalogue, the open scopes and what is known of their locals; p reads the children of the record at
module _ (k : ℕ) (cat : List Table) (Γ : List Open) (is : List Info) (p : ℕ → Parsed Exp) (at : ℕ) (P : Parsed Exp) where
  pub const_step : (t : Ty) (v : Value) → P ≡ ok (ast.Exp.const at t v) (at + 1) → typed_by k cat Γ is P ≡ fine (leaf_k t (Fixed k) (at + 1))
  unfolding typed_by resolve
  const_step t v e = rw e (good_typed k is (at + 1) _ t _ (const_known k is (at + 1) t v))

  col_typed : (next : ℕ) (o : Only Hit) → next ≡ at + 1 → typed_at k is next (col_out at o) ≡ col_t at (found_of is o)
  unfolding col_out col_t found_of
  col_typed next none e = unfold typed_at in refl
  col_typed next (one (column a b c t h)) e = rw e (good_typed k is (at + 1) _ h.ty _ (col_known k is (at + 1) a b c h.info h.ty))
  col_typed next (one (bound a t)) e = rw e (good_typed k is (at + 1) _ t _ (local_known k is (at + 1) a t))
  col_typed next more e = unfold typed_at in refl

  class_typed : (next : ℕ) (o : Only Hit) → next ≡ at + 1 → typed_at k is next (class_out at o) ≡ class_t at (found_of is o)
  unfolding class_out class_t found_of
  class_typed next none e = unfold typed_at in refl
  class_typed next (one (column a b c t h)) e = rw e (good_typed k is (at + 1) _ T.Class _ (classof_known k is (at + 1) a b c t.row T.Class))
  class_typed next (one (bound a t)) e = unfold typed_at in refl
  class_typed next more e = unfold typed_at in refl

  pub col_step : (name q : ℕ) → P ≡ ok (ast.Exp.col at name q) (at + 1) → typed_by k cat Γ is P ≡ col_t at (found_of is (find name q 0 Γ))
  unfolding typed_by resolve
  col_step name q e = rw e (col_typed (at + 1) (find name q 0 Γ) refl)

  pub classof_step : (name q : ℕ) → P ≡ ok (ast.Exp.classof at name q) (at + 1) → typed_by k cat Γ is P ≡ class_t at (found_of is (find name q 0 Γ))
  unfolding typed_by resolve
  classof_step name q e = rw e (class_typed (at + 1) (find name q 0 Γ) refl)

  pub not_step : One p (at + 1) P (ast.Exp.neg at) → typed_by k cat Γ is P ≡ then_t (typed_by k cat Γ is (p (at + 1))) (not_t at)
  unfolding typed_by resolve not_t
  not_step h =
      rw (h.whole, h.first)
      (then_typed k is h.end is h.end (resolve cat Γ h.x) _ _ (λ x t.
      bool_typed k is h.end at t _ ∙ ap (bool_t at t) (good_typed k is h.end _ T.Boolean _ (neg_known k is h.end x t)) ∙ (unfold known_of in refl)))

  pub binop_step : (op : ℕ) → Two p (at + 1) P (ast.Exp.binop at op)
      → typed_by k cat Γ is P ≡ then_t (typed_by k cat Γ is (p (at + 1))) (λ x. then_t (typed_by k cat Γ is (p x.next)) (two_t at op x))
  unfolding typed_by resolve two_t known_of
  binop_step op h =
      rw (h.whole, h.first)
      (then_typed k is h.end is h.mid (resolve cat Γ h.x) _ _ (λ x s.
      rw h.second
      (then_typed k is h.end is h.end (resolve cat Γ h.y) _ _ (λ y t.
      ruled_typed k is h.end at (binop_type op s t) _ _ (λ u. good_typed k is h.end _ u _ (bin_known k is h.mid h.end op (digits_of u) x y s t u))))))

  pub if_step : Three p (at + 1) P (ast.Exp.if at)
      → typed_by k cat Γ is P ≡ then_t (typed_by k cat Γ is (p (at + 1))) (λ c. then_t (typed_by k cat Γ is (p c.next)) (λ x. then_t (typed_by k cat Γ is (p x.next)) (if_t at c x)))
  unfolding typed_by resolve if_t known_of
  if_step h =
      rw (h.whole, h.first)
      (then_typed k is h.end is h.mid (resolve cat Γ h.x) _ _ (λ x s.
      rw h.second
      (then_typed k is h.end is h.late (resolve cat Γ h.y) _ _ (λ y t.
      rw h.third
      (then_typed k is h.end is h.end (resolve cat Γ h.z) _ _ (λ z u.
      bool_typed k is h.end at s _
      ∙ ap (bool_t at s) (ruled_typed k is h.end at (limb_type t u) _ _ (λ w.
      good_typed k is h.end _ w _
      (if_known k is h.mid h.late h.end x (brought t w y) (brought u w z) s w w w
      ∙ ap (λ (b : Known). if_k w (known_of k is h.mid x s) b (known_of k is h.end (brought u w z) w)) (brought_known k is h.late y t w)
      ∙ ap (if_k w (known_of k is h.mid x s) (brought_k w (known_of k is h.late y t))) (brought_known k is h.end z u w))))))))))

  pub let_step : (name : ℕ) → Two p (at + 1) P (ast.Exp.letin at name)
      → typed_by k cat Γ is P ≡ then_t (typed_by k cat Γ is (p (at + 1))) (λ x. then_t (typed_by k cat (local name x.ty ∷ Γ) (x.info ∷ is) (p x.next)) (λ y. fine (let_k x y)))
  unfolding typed_by resolve known_of
  let_step name h =
      rw (h.whole, h.first)
      (then_typed k is h.end is h.mid (resolve cat Γ h.x) _ _ (λ x s.
      rw h.second
      (then_typed k is h.end ((known_of k is h.mid x s).info ∷ is) h.end (resolve cat (local name s ∷ Γ) h.y) _ _ (λ y t.
      good_typed k is h.end _ t _ (let_known k is h.mid h.end x y s t)))))

  -- blocks, where the tables are there; and where one is missing. The where stands at m
  module _ (m : ℕ) (names : List TabName) where
    pub exists_step : (f : Fold) (ts : List TabRef) → One p m P (ast.Exp.exists at f names) → tables_named cat names ≡ all ts
        → typed_by k cat Γ is P ≡ then_t (typed_by k cat (opened ts ∷ Γ) (Fixed 0 ∷ is) (p m)) (exists_t at f ts)
    unfolding typed_by resolve on_tabs exists_t
    exists_step f ts h e =
        rw (h.whole, h.first, e)
        (then_typed k is h.end (Fixed 0 ∷ is) h.end (resolve cat (opened ts ∷ Γ) h.x) _ _ (λ x t.
        bool_typed k is h.end at t _ ∙ ap (bool_t at t) (good_typed k is h.end _ (fold_type f) _ (exists_known k is h.end f ts x t)) ∙ (unfold known_of in refl)))

    pub exists_missing : (f : Fold) (q : ℕ) → One p m P (ast.Exp.exists at f names) → tables_named cat names ≡ missing q → typed_by k cat Γ is P ≡ refusal 6 q
    unfolding typed_by resolve on_tabs typed_at
    exists_missing f q h e = rw (h.whole, e)

    pub single_step : (g : Pick) (ts : List TabRef) → Two p m P (ast.Exp.single at g names) → tables_named cat names ≡ all ts
        → typed_by k cat Γ is P ≡ then_t (typed_by k cat (opened ts ∷ Γ) (Fixed 0 ∷ is) (p m)) (λ x. then_t (typed_by k cat (opened ts ∷ Γ) (Fixed 0 ∷ is) (p x.next)) (single_t at g ts x))
    unfolding typed_by resolve on_tabs single_t known_of
    single_step g ts h e =
        rw (h.whole, h.first, e)
        (then_typed k is h.end (Fixed 0 ∷ is) h.mid (resolve cat (opened ts ∷ Γ) h.x) _ _ (λ x s.
        rw h.second
        (then_typed k is h.end (Fixed 0 ∷ is) h.end (resolve cat (opened ts ∷ Γ) h.y) _ _ (λ y t.
        bool_typed k is h.end at s _ ∙ ap (bool_t at s) (ruled_typed k is h.end at (pick_type g t) _ _ (λ u. good_typed k is h.end _ u _ (single_known k is h.mid h.end g ts x y s t u)))))))

    pub single_missing : (g : Pick) (q : ℕ) → Two p m P (ast.Exp.single at g names) → tables_named cat names ≡ missing q → typed_by k cat Γ is P ≡ refusal 6 q
    unfolding typed_by resolve on_tabs typed_at
    single_missing g q h e = rw (h.whole, e)
