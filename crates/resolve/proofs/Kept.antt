-- A property of types that columns, locals and constants have, and that the type rules keep, is one of the type of whatever is resolved.
-- Assumes nothing.
use Prim.Native.Nat.{ℕ, suc, ◌+◌}
use mathlib.Core.Path.{◌≡◌, refl, sym, subst}
use mathlib.Core.Bool.{Bool, true, false, cond, ◌&&◌, ◌||◌}
use mathlib.Core.List.{List, [], ◌∷◌, ◌++◌, map}
use native.Mathlib.Omega.{arith}
use lib.Dec.{eqb}
use Rattle.cell.specs.Res.{Res, stuck, done}
use Rattle.cell.specs.Types.{binop_type, limb_type}
use Rattle.cell.specs.declared.Type.{«Type» as Ty}
use Rattle.cell.specs.declared.Type.TheVariants as T
use Rattle.cell.specs.declared.Value.{Value}
use Rattle.catalogue.specs.Tables.{Table, Column, TabRef, later, table_named}
use Rattle.view.specs.Ast.{TabName, Exp, ok}
use Rattle.view.specs.Record.{node_at}
use Rattle.view.specs.Parse.{parse_value}
use Rattle.view.specs.declared.Fold.{Fold}
use Rattle.view.specs.declared.Node.TheVariants.{Const, Exists}
use Rattle.view.proofs.Induction.{parse_ind}
use Rattle.scope.specs.Scopes.{Open, block, local, Hit, column, bound, Only, one, only_of, in_cols, in_table, in_tabs, in_scope, nearest, find}
use Rattle.scope.specs.Blocks.{Tabs, all, missing, before, found_at, tables_named, opened}
use Rattle.resolve.specs.Expr.{Expr}
use Rattle.resolve.specs.Totals.{fold_type}
use Rattle.resolve.specs.Resolve.{good, resolve}
use Rattle.resolve.proofs.Inversion.{ColGood, of_column, of_local, pick_same, const_good, bin_good, neg_good, if_good, exists_good, single_good, let_good, col_good, classof_good}

module _ (P : Ty → Type 0) where
  -- of columns, tables, open scopes, matches
  abbrev pub Columns : List Column → Type 0
  Columns [] = Unit {0}
  Columns (k ∷ ks) = P k.ty × Columns ks

  abbrev pub Tables : List Table → Type 0
  Tables [] = Unit {0}
  Tables (t ∷ ts) = Columns t.cols × Tables ts

  abbrev pub Scope : Open → Type 0
  Scope (block ts) = Tables ts
  Scope (local m t) = P t

  abbrev pub Scopes : List Open → Type 0
  Scopes [] = Unit {0}
  Scopes (s ∷ Γ) = Scope s × Scopes Γ

  abbrev OfHit : Hit → Type 0
  OfHit (column a b c t k) = P k.ty
  OfHit (bound a t) = P t

  abbrev OfHits : List Hit → Type 0
  OfHits [] = Unit {0}
  OfHits (h ∷ hs) = OfHit h × OfHits hs

  -- what a name finds
  hits_append : (xs ys : List Hit) → OfHits xs → OfHits ys → OfHits (xs ++ ys)
  hits_append [] ys h k = k
  hits_append (x ∷ xs) ys h k = (h.0, hits_append xs ys h.1 k)

  hits_cond : (z : Bool) (xs : List Hit) → OfHits xs → OfHits (cond z xs [])
  hits_cond true xs h = h
  hits_cond false xs h = tt

  cols_hits : (name a b : ℕ) (t : Table) (c : ℕ) (ks : List Column) → Columns ks → OfHits (in_cols name a b t c ks)
  unfolding in_cols
  cols_hits name a b t c [] h = tt
  cols_hits name a b t c (k ∷ ks) h =
      hits_append (cond (eqb k.cname name) (column a b c t k ∷ []) []) (in_cols name a b t (c + 1) ks)
      (hits_cond (eqb k.cname name) (column a b c t k ∷ []) (h.0, tt))
      (cols_hits name a b t (c + 1) ks h.1)

  tabs_hits : (name q a b : ℕ) (ts : List Table) → Tables ts → OfHits (in_tabs name q a b ts)
  unfolding in_tabs in_table
  tabs_hits name q a b [] h = tt
  tabs_hits name q a b (t ∷ ts) h =
      hits_append (in_table name q a b t) (in_tabs name q a (b + 1) ts)
      (hits_cond (eqb q 0 || eqb t.tname q) (in_cols name a b t 0 t.cols) (cols_hits name a b t 0 t.cols h.0))
      (tabs_hits name q a (b + 1) ts h.1)

  scope_hits : (name q a : ℕ) (s : Open) → Scope s → OfHits (in_scope name q a s)
  unfolding in_scope
  scope_hits name q a (block ts) h = tabs_hits name q a 0 ts h
  scope_hits name q a (local m t) h = hits_cond (eqb q 0 && eqb m name) (bound a t ∷ []) (h, tt)

  nearest_hit : (hs : List Hit) (o : Only Hit) (h : Hit) → OfHits hs → (o ≡ one h → OfHit h) → nearest (only_of hs) o ≡ one h → OfHit h
  unfolding nearest only_of
  nearest_hit [] o h p k e = k e
  nearest_hit (g ∷ []) o h p k e = let q : g ≡ h = cc in subst OfHit q p.0
  nearest_hit (g ∷ (f ∷ hs)) o h p k e = let z : ◌≡◌ {A = ℕ} 0 1 = cc in absurd (omega arith)

  found : (name q a : ℕ) (Γ : List Open) (h : Hit) → Scopes Γ → find name q a Γ ≡ one h → OfHit h
  unfolding find
  found name q a [] h r e = let z : ◌≡◌ {A = ℕ} 0 1 = cc in absurd (omega arith)
  found name q a (s ∷ Γ) h r e =
      nearest_hit (in_scope name q a s) (find name q (a + 1) Γ) h (scope_hits name q a s r.0) (found name q (a + 1) Γ h r.1) e

  -- the tables of a block are the catalogue's
  named : (name : ℕ) (cat : List Table) (t : TabRef) → Tables cat → table_named name cat ≡ done t → Columns t.table.cols
  unfolding table_named later
  named name [] t r e = let z : ◌≡◌ {A = ℕ} 0 1 = cc in absurd (omega arith)
  named name (u ∷ cat) t r e = go (eqb u.tname name) (table_named name cat) (λ t. named name cat t r.1) e
    where
      go : (z : Bool) (o : Res TabRef) → ((t : TabRef) → o ≡ done t → Columns t.table.cols)
          → cond z (done (record { num = 0; table = u })) (later o) ≡ done t → Columns t.table.cols
      go true o ih e = let p : t ≡ record { num = 0; table = u } = cc in rw p r.0
      go false stuck ih e = let z : ◌≡◌ {A = ℕ} 0 1 = cc in absurd (omega arith)
      go false (done s) ih e = let p : t ≡ record { num = suc s.num; table = s.table } = cc in rw p (ih s refl)

  pub of_tables : (cat : List Table) (names : List TabName) (ts : List TabRef) → Tables cat → tables_named cat names ≡ all ts → Tables (map (λ t. t.table) ts)
  unfolding tables_named found_at before
  of_tables cat [] ts r e = let p : ts ≡ [] = cc in rw p tt
  of_tables cat (x ∷ xs) ts r e = go (table_named x.name cat) (tables_named cat xs) (λ t. named x.name cat t r) (λ us. of_tables cat xs us r) e
    where
      go : (o : Res TabRef) (rest : Tabs) → ((t : TabRef) → o ≡ done t → Columns t.table.cols)
          → ((us : List TabRef) → rest ≡ all us → Tables (map (λ t. t.table) us)) → found_at x.at o rest ≡ all ts
          → Tables (map (λ t. t.table) ts)
      go stuck rest h k e = let z : ◌≡◌ {A = ℕ} 0 1 = cc in absurd (omega arith)
      go (done t) (all us) h k e = let p : ts ≡ t ∷ us = cc in rw p (h t refl, k us refl)
      go (done t) (missing p) h k e = let z : ◌≡◌ {A = ℕ} 0 1 = cc in absurd (omega arith)

  col_kept : (Γ : List Open) (name q : ℕ) (X : Expr) (U : Ty) → Scopes Γ → ColGood (find name q 0 Γ) X U → P U
  col_kept Γ name q X U s (of_column a b c w k e f g) = subst P (sym g) (found name q 0 Γ (column a b c w k) s e)
  col_kept Γ name q X U s (of_local a e f) = found name q 0 Γ (bound a U) s e

  -- THE LAW, over the values that were read from a view
  module _ (boolean : P T.Boolean) (class : P T.Class)
      (binop : (op : ℕ) (s t r : Ty) → binop_type op s t ≡ done r → P s → P t → P r)
      (limb : (s t r : Ty) → limb_type s t ≡ done r → P s → P t → P r)
      (cat : List Table) (tabs : Tables cat) (v : List ℕ) (n : ℕ)
      (const : (at : ℕ) (t : Ty) (x : Value) → node_at v at ≡ Const t x → P t)
      (fold : (at a : ℕ) (q : Fold) → node_at v at ≡ Exists a q → P (fold_type q)) where
    pub kept : (d at : ℕ) {e : Exp} {k : ℕ} → parse_value v n d at ≡ ok e k → (Γ : List Open) → Scopes Γ → (X : Expr) (U : Ty) → resolve cat Γ e ≡ good X U → P U
    kept d at h =
        parse_ind v n (λ d at e k. (Γ : List Open) → Scopes Γ → (X : Expr) (U : Ty) → resolve cat Γ e ≡ good X U → P U)
        (λ d at t x z l g Γ s X U e. subst P (sym (const_good cat Γ X U at t x e).type_is) (const at t x g))
        (λ d at name q z l g Γ s X U e. col_kept Γ name q X U s (col_good cat Γ X U at name q e))
        (λ d at name q z l g Γ s X U e. subst P (sym (classof_good cat Γ X U at name q e).type_is) class)
        (λ d at y k z l g ih Γ s X U e. subst P (sym (neg_good cat Γ X U at y e).type_is) boolean)
        (λ d at op y w m k z l g ih jh Γ s X U e.
        let b = bin_good cat Γ X U at op y w e in
        binop op b.s b.u U b.rule (ih Γ s b.y b.s b.left) (jh Γ s b.z b.u b.right))
        (λ d at name y w m k z l g ih jh Γ s X U e.
        let b = let_good cat Γ X U at name y w e in
        jh (local name b.s ∷ Γ) (ih Γ s b.y b.s b.value, s) b.z U b.body)
        (λ d at y w u m j k z l g ih jh kh Γ s X U e.
        let b = if_good cat Γ X U at y w u e in
        limb b.s b.u U b.rule (jh Γ s b.y b.s b.left) (kh Γ s b.z b.u b.right))
        (λ d at a q y k z l g o ih Γ s X U e. subst P (sym (exists_good cat Γ X U at q _ y e).type_is) (fold at a q g))
        (λ d at a q y w m k z l g o ih jh Γ s X U e.
        let b = single_good cat Γ X U at q _ y w e in
        subst P (pick_same q b.s U b.rule) (jh (opened b.tabs ∷ Γ) (of_tables cat _ b.tabs tabs b.there, s) b.z b.s b.value))
        d at h
