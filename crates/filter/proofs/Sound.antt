-- Whatever is resolved over an accepted catalogue is sound: its constants, its classes, its digits; and it opens no more scopes than the view's value.
-- Assumes nothing.
use Prim.Native.Nat.{ℕ, zero, suc, ◌+◌, ◌<◌, ◌≤◌}
use mathlib.Core.Path.{◌≡◌, refl, ap}
use mathlib.Core.Bool.{Bool, true, false, cond, ◌&&◌}
use mathlib.Core.List.{List, [], ◌∷◌}
use native.Mathlib.Omega.{arith}
use borrow.Author.Tests.{leb-true}
use lib.Dec.{eqb, leb}
use lib.ListN.{length}
use Rattle.word.specs.Bytes.{u16_at}
use Rattle.word.specs.Header.{count_at}
use Rattle.word.specs.Record.{op_at, b_at}
use Rattle.class.specs.Info.{info_by, bound_of}
use Rattle.class.specs.declared.Info.TheVariants.{Fixed, Bound}
use Rattle.cell.specs.Res.{done, nth}
use Rattle.cell.specs.Types.{digits_rule, in_rule, digits_of, scale_of, same_type}
use Rattle.cell.specs.declared.Type.{«Type» as Ty}
use Rattle.cell.specs.declared.Type.TheVariants as T
use Rattle.catalogue.specs.Fault.{check_of}
use Rattle.catalogue.specs.Tables.{Table, Column, TabRef, catalogue_of}
use Rattle.word.specs.Refusal.{fine}
use Rattle.catalogue.proofs.Meaning.{accepted}
use Rattle.catalogue.proofs.Listed.{info_is, tclass_is, row_is, ColumnStands, table_stands, column_stands}
use Rattle.store.specs.Rows.{All}
use Rattle.view.specs.Ast.{TabName, Exp}
use Rattle.view.specs.Ast as ast
use Rattle.view.specs.declared.Fold.{Fold}
use Rattle.view.specs.declared.Fold.TheVariants as fold
use Rattle.view.proofs.Laws.{and_left, and_right}
use Rattle.scope.specs.Scopes.{Open, block, local, column, one, find}
use Rattle.scope.specs.Blocks.{all, tables_named, opened}
use Rattle.resolve.specs.Expr.{Expr}
use Rattle.resolve.specs.Expr as expr
use Rattle.resolve.specs.Totals.{fold_type}
use Rattle.resolve.specs.Resolve.{good, brought, resolve}
use Rattle.run.specs.Stands.{FoldFits}
use Rattle.reading.specs.Demands.{Bytes}
use Rattle.reading.proofs.Lists.{all_imp, all_map}
use Rattle.reading.proofs.Inversion.{const_elim, binop_elim, neg_elim, if_elim, exists_elim, single_elim, col_elim, classof_elim, let_elim}
use Rattle.reading.proofs.Names.{found_stands, tables_ok}
use Rattle.reading.proofs.WellTyped.{TablesRule, ScopesRule, ConstsOk, named_elim, tables_rule, well_typed}
use Rattle.filter.proofs.Formed.{Formed, nest}
use Rattle.filter.proofs.Fitting.{TableSmall, TabsFit, Sound, deep}

-- ---- lists

all_nth : {A : Type 0} (P : A → Type 0) (xs : List A) (j : ℕ) (x : A) → All P xs → nth xs j ≡ done x → P x
unfolding nth
all_nth P [] j x h e = let z : ◌≡◌ {A = ℕ} 0 1 = cc in absurd (omega arith)
all_nth P (y ∷ xs) zero x h e = let p : x ≡ y = cc in rw p h.0
all_nth P (y ∷ xs) (suc j) x h e = all_nth P xs j x h.1 e

nth_all : {A : Type 0} (P : A → Type 0) (xs : List A) → ((j : ℕ) (x : A) → nth xs j ≡ done x → P x) → All P xs
unfolding nth
nth_all P [] h = tt
nth_all P (x ∷ xs) h = (h 0 x refl, nth_all P xs (λ j. h (suc j)))

-- ---- an accepted catalogue's classes are words

word_small : (c : List ℕ) → Bytes c → (at : ℕ) → u16_at c at < 65536
word_small c h at = omega (arith, h at, h (at + 1))

info_bound : (op b : ℕ) → bound_of (info_by op b) ≡ b
unfolding info_by bound_of
info_bound op b = go (eqb op 0)
  where
    go : (z : Bool) → bound_of (cond z (Fixed b) (Bound b)) ≡ b
    go true = refl
    go false = refl

column_small : (c : List ℕ) → Bytes c → (k : Column) → ColumnStands c k → bound_of k.info < 65536
column_small c h k s =
    rw (s.column, info_is c s.place, info_bound (op_at c s.place) (b_at c s.place)) (word_small c h _)

pub catalogue_small : (c : List ℕ) (tables : ℕ) → Bytes c → check_of c ≡ fine tables → All TableSmall (catalogue_of c)
catalogue_small c tables h e =
    let a = accepted c tables e in
    nth_all TableSmall (catalogue_of c) (λ j t f.
    let s = table_stands c tables a j t f in
    record {
      class_small = rw (s.table, tclass_is c s.place (count_at c)) (word_small c h _);
      row_small = rw (s.table, row_is c s.place (count_at c), info_bound (op_at c s.place) (b_at c s.place)) (word_small c h _);
      cells_small = nth_all (λ k. bound_of k.info < 65536) t.cols (λ i k g. column_small c h k (column_stands c tables a t s i k g));
    })

-- ---- open scopes

abbrev pub ScopeSmall : Open → Type 0
ScopeSmall (block ts) = All TableSmall ts
ScopeSmall (local m t) = Unit {0}

found_small : (name q : ℕ) (Γ : List Open) (a b c : ℕ) (t : Table) (k : Column) → All ScopeSmall Γ → find name q 0 Γ ≡ one (column a b c t k) →
    (bound_of t.row < 65536) × (bound_of k.info < 65536)
found_small name q Γ a b c t k h e =
    let (ts, f, g, m) = found_stands name q Γ (column a b c t k) e in
    let s = all_nth TableSmall ts b t (all_nth ScopeSmall Γ a (block ts) h f) g in
    (s.row_small, all_nth (λ k. bound_of k.info < 65536) t.cols c k s.cells_small m)

named_length : (cat : List Table) (names : List TabName) (ts : List TabRef) → tables_named cat names ≡ all ts → length ts ≡ length names
unfolding tables_named
named_length cat [] ts e = let p : ts ≡ [] = cc in rw p
named_length cat (x ∷ xs) ts e = named_elim cat x xs ts e λ t us f g p. rw p (ap suc (named_length cat xs us g))

named_small : (cat : List Table) (names : List TabName) (ts : List TabRef) → All TableSmall cat → tables_named cat names ≡ all ts →
    All (λ t. TableSmall t.table) ts
named_small cat names ts h e =
    all_imp (λ t. nth cat t.num ≡ done t.table) (λ t. TableSmall t.table) (λ t f. all_nth TableSmall cat t.num t.table h f) ts
    (tables_ok cat names ts e)

pub named_fit : (cat : List Table) (names : List TabName) (ts : List TabRef) → All TableSmall cat → tables_named cat names ≡ all ts →
    1 ≤ length names → length names ≤ 4 → TabsFit ts
named_fit cat names ts h e l m =
    let n = named_length cat names ts e in
    record { some = rw n l; few = rw n m; small = named_small cat names ts h e }

pub opened_small : (ts : List TabRef) → All (λ t. TableSmall t.table) ts → ScopeSmall (opened ts)
opened_small ts h = all_map TableSmall (λ t. t.table) ts h

-- ---- digits

digits_small : (t : Ty) → in_rule t ≡ true → (digits_of t ≤ 9) × (scale_of t ≤ 4)
unfolding in_rule digits_of scale_of digits_rule
digits_small T.Null e = (omega arith, omega arith)
digits_small T.Boolean e = (omega arith, omega arith)
digits_small (T.Fixed p s) e =
    let a = and_left (leb 1 p && leb p 9) (leb s 4 && leb s p) e in
    let b = and_right (leb 1 p && leb p 9) (leb s 4 && leb s p) e in
    (leb-true p 9 (and_right (leb 1 p) (leb p 9) a), leb-true s 4 (and_left (leb s 4) (leb s p) b))
digits_small (T.Time f) e = (omega arith, omega arith)
digits_small (T.Interval f) e = (omega arith, omega arith)
digits_small T.Class e = (omega arith, omega arith)

-- a limb brought to a type in rule
limb_sound : (t w : Ty) (x : Expr) → in_rule w ≡ true → Sound x → Sound (brought t w x) × (deep (brought t w x) ≡ deep x)
unfolding brought Sound deep
limb_sound t w x e h = go (same_type t w)
  where
    go : (z : Bool) → Sound (cond z x (expr.Expr.conv (digits_of w) (scale_of w) x)) × (deep (cond z x (expr.Expr.conv (digits_of w) (scale_of w) x)) ≡ deep x)
    go true = (h, refl)
    go false = let (l, m) = digits_small w e in ((h, l, m), refl)

-- a count's digits
fold_fits : (f : Fold) → in_rule (fold_type f) ≡ true → FoldFits f
unfolding fold_type digits_of
fold_fits fold.Any e = tt
fold_fits (fold.Count p) e = (digits_small (T.Fixed p 0) e).0

-- ---- THE LAW

module _ (cat : List Table) (ruled : TablesRule cat) (small : All TableSmall cat) where
  pub sound : (e : Exp) → ConstsOk e → Formed e → (Γ : List Open) → ScopesRule Γ → All ScopeSmall Γ → (x : Expr) (u : Ty) →
      resolve cat Γ e ≡ good x u → Sound x × (deep x ≤ nest e)
  unfolding ConstsOk Formed Sound deep nest
  sound (ast.Exp.const at t v) o h Γ g s x u e =
      const_elim cat Γ x u at t v e (λ p q. rw (p, q) (h, omega arith))
  sound (ast.Exp.binop at op l r) o h Γ g s x u e =
      let d = digits_small u (well_typed cat ruled (ast.Exp.binop at op l r) o Γ g x u e) in
      binop_elim cat Γ x u at op l r e λ y a z b f k m p.
      let (i, j) = sound l o.0 h.0 Γ g s y a f in
      let (i', j') = sound r o.1 h.1 Γ g s z b k in
      rw p ((i, i', omega (arith, d.0)), omega (arith, j, j'))
  sound (ast.Exp.neg at a) o h Γ g s x u e =
      neg_elim cat Γ x u at a e λ y f p q.
      let (i, j) = sound a o h Γ g s y T.Boolean f in
      rw p (i, j)
  sound (ast.Exp.if at c l r) o h Γ g s x u e =
      let w = well_typed cat ruled (ast.Exp.if at c l r) o Γ g x u e in
      if_elim cat Γ x u at c l r e λ y z t a b f k m n p.
      let (i, j) = sound c o.0 h.0 Γ g s y T.Boolean f in
      let (i', j') = sound l o.1 h.1 Γ g s z a k in
      let (i'', j'') = sound r o.2 h.2 Γ g s t b m in
      let (q, d) = limb_sound a u z w i' in
      let (q', d') = limb_sound b u t w i'' in
      rw p ((i, q, q'), omega (arith, j, j', j'', d, d'))
  sound (ast.Exp.exists at a names w) o h Γ g s x u e =
      exists_elim cat Γ x u at a names w e λ ts y f k p q.
      let t = named_fit cat names ts small f h.0 h.1 in
      let (i, j) = sound w o.1 h.2 (opened ts ∷ Γ) (tables_rule cat names ts ruled f, g) (opened_small ts t.small, s) y T.Boolean k in
      rw p ((t, i, fold_fits a o.0), omega (arith, j))
  sound (ast.Exp.single at a names w v) o h Γ g s x u e =
      single_elim cat Γ x u at a names w v e λ ts y z f k m r p.
      let t = named_fit cat names ts small f h.0 h.1 in
      let (i, j) = sound w o.0 h.2 (opened ts ∷ Γ) (tables_rule cat names ts ruled f, g) (opened_small ts t.small, s) y T.Boolean k in
      let (i', j') = sound v o.1 h.3 (opened ts ∷ Γ) (tables_rule cat names ts ruled f, g) (opened_small ts t.small, s) z u m in
      rw p ((t, i, i'), omega (arith, j, j'))
  sound (ast.Exp.col at name q) o h Γ g s x u e =
      col_elim cat Γ x u at name q e
      (λ a b c t k f p r. rw p ((found_small name q Γ a b c t k s f).1, omega arith))
      (λ a f p. rw p (tt, omega arith))
  sound (ast.Exp.classof at name q) o h Γ g s x u e =
      classof_elim cat Γ x u at name q e λ a b c t k f p r. rw p ((found_small name q Γ a b c t k s f).0, omega arith)
  sound (ast.Exp.letin at name v b) o h Γ g s x u e =
      let_elim cat Γ x u at name v b e λ y t z f k p.
      let (i, j) = sound v o.0 h.0 Γ g s y t f in
      let (i', j') = sound b o.1 h.1 (local name t ∷ Γ) (well_typed cat ruled v o.0 Γ g y t f, g) (tt, s) z u k in
      rw p ((i, i'), omega (arith, j, j'))
