-- What a name finds stands in the open scopes where the match says; the tables of a block stand in the catalogue by their numbers.
-- Assumes nothing.
use Prim.Native.Nat.{ℕ, ◌+◌}
use mathlib.Core.Path.{◌≡◌, refl, subst}
use mathlib.Core.Bool.{cond, ◌&&◌, ◌||◌}
use mathlib.Core.List.{List, [], ◌∷◌}
use native.Mathlib.Omega.{arith}
use lib.Dec.{eqb}
use Rattle.cell.specs.Res.{done, nth}
use Rattle.catalogue.specs.Tables.{Table, Column, TabRef}
use Rattle.catalogue.proofs.Listed.{named_is}
use Rattle.store.specs.Rows.{All}
use Rattle.view.specs.Ast.{TabName}
use Rattle.scope.specs.Scopes.{Open, block, local, Hit, column, bound, Only, one, only_of, in_cols, in_table, in_tabs, in_scope, nearest, find}
use Rattle.scope.specs.Blocks.{all, tables_named}
use Rattle.reading.proofs.Lists.{all_imp, all_append, all_cond, from, from_cons, from_next}
use Rattle.reading.proofs.WellTyped.{named_elim}

-- ---- matches

-- a match in the table t, number b of the scope a
abbrev InTable : ℕ → ℕ → Table → Hit → Type 0
InTable a b t (column d e c u k) = (d ≡ a) × (e ≡ b) × (u ≡ t) × (nth t.cols c ≡ done k)
InTable a b t (bound d u) = ⊥

in_cols_lem : (name a b : ℕ) (t : Table) (c : ℕ) (ks : List Column) → from c t.cols ≡ ks → All (InTable a b t) (in_cols name a b t c ks)
unfolding in_cols
in_cols_lem name a b t c [] e = tt
in_cols_lem name a b t c (k ∷ ks) e =
    all_append (InTable a b t) (cond (eqb k.cname name) (column a b c t k ∷ []) []) (in_cols name a b t (c + 1) ks)
    (all_cond (InTable a b t) (eqb k.cname name) (column a b c t k ∷ []) ((refl, refl, refl, (from_cons c t.cols k ks e).0), tt))
    (in_cols_lem name a b t (c + 1) ks (from_next c t.cols k ks e))

-- a match in the scope s, which is number a
abbrev InScope : ℕ → Open → Hit → Type 0
InScope a (block ts) (column d b c t k) = (d ≡ a) × (nth ts b ≡ done t) × (nth t.cols c ≡ done k)
InScope a (block ts) (bound d u) = ⊥
InScope a (local m t) (column d b c u k) = ⊥
InScope a (local m t) (bound d u) = (d ≡ a) × (u ≡ t)

table_scope : (a b : ℕ) (ts : List Table) (t : Table) → nth ts b ≡ done t → (h : Hit) → InTable a b t h → InScope a (block ts) h
table_scope a b ts t e (column d f c u k) (p, q, r, s) = (p, rw (q, r) e, rw r s)
table_scope a b ts t e (bound d u) h = h

in_tabs_lem : (name q a : ℕ) (whole : List Table) (b : ℕ) (ts : List Table) → from b whole ≡ ts → All (InScope a (block whole)) (in_tabs name q a b ts)
unfolding in_tabs in_table
in_tabs_lem name q a whole b [] e = tt
in_tabs_lem name q a whole b (t ∷ ts) e =
    all_append (InScope a (block whole)) (in_table name q a b t) (in_tabs name q a (b + 1) ts)
    (all_cond (InScope a (block whole)) (eqb q 0 || eqb t.tname q) (in_cols name a b t 0 t.cols)
    (all_imp (InTable a b t) (InScope a (block whole)) (table_scope a b whole t (from_cons b whole t ts e).0) (in_cols name a b t 0 t.cols)
    (in_cols_lem name a b t 0 t.cols refl)))
    (in_tabs_lem name q a whole (b + 1) ts (from_next b whole t ts e))

in_scope_lem : (name q a : ℕ) (s : Open) → All (InScope a s) (in_scope name q a s)
unfolding in_scope
in_scope_lem name q a (block ts) = in_tabs_lem name q a ts 0 ts refl
in_scope_lem name q a (local m t) = all_cond (InScope a (local m t)) (eqb q 0 && eqb m name) (bound a t ∷ []) ((refl, refl), tt)

-- where a match stands among the open scopes
abbrev pub Stands : List Open → Hit → Type 0
Stands Γ (column a b c t k) = (ts : List Table) × (nth Γ a ≡ done (block ts)) × (nth ts b ≡ done t) × (nth t.cols c ≡ done k)
Stands Γ (bound a t) = (m : ℕ) × (nth Γ a ≡ done (local m t))

scope_stands : (Γ : List Open) (a : ℕ) (s : Open) → nth Γ a ≡ done s → (h : Hit) → InScope a s h → Stands Γ h
scope_stands Γ a (block ts) e (column d b c t k) (p, q, r) = (ts, rw p e, q, r)
scope_stands Γ a (block ts) e (bound d u) h = absurd h
scope_stands Γ a (local m t) e (column d b c u k) h = absurd h
scope_stands Γ a (local m t) e (bound d u) (p, q) = (m, rw (p, q) e)

-- the only match of a scope, or what is found further out
nearest_stands : (P : Hit → Type 0) (hs : List Hit) (o : Only Hit) (h : Hit) → All P hs → (o ≡ one h → P h) → nearest (only_of hs) o ≡ one h → P h
unfolding nearest only_of
nearest_stands P [] o h p k e = k e
nearest_stands P (g ∷ []) o h p k e = let q : g ≡ h = cc in subst P q p.0
nearest_stands P (g ∷ (f ∷ hs)) o h p k e = let z : ◌≡◌ {A = ℕ} 0 1 = cc in absurd (omega arith)

stands_from : (name q : ℕ) (whole : List Open) (a : ℕ) (Γ : List Open) → from a whole ≡ Γ → (h : Hit) → find name q a Γ ≡ one h → Stands whole h
unfolding find
stands_from name q whole a [] e h f = let z : ◌≡◌ {A = ℕ} 0 1 = cc in absurd (omega arith)
stands_from name q whole a (s ∷ Γ) e h f =
    nearest_stands (Stands whole) (in_scope name q a s) (find name q (a + 1) Γ) h
    (all_imp (InScope a s) (Stands whole) (scope_stands whole a s (from_cons a whole s Γ e).0) (in_scope name q a s) (in_scope_lem name q a s))
    (stands_from name q whole (a + 1) Γ (from_next a whole s Γ e) h) f

-- THE MATCH of a name stands where it says
pub found_stands : (name q : ℕ) (Γ : List Open) (h : Hit) → find name q 0 Γ ≡ one h → Stands Γ h
found_stands name q Γ h e = stands_from name q Γ 0 Γ refl h e

-- ---- tables

-- what the catalogue says of each table of a block
abbrev pub TabsOk : List Table → List TabRef → Type 0
TabsOk cat ts = All (λ t. nth cat t.num ≡ done t.table) ts

pub tables_ok : (cat : List Table) (names : List TabName) (ts : List TabRef) → tables_named cat names ≡ all ts → TabsOk cat ts
unfolding tables_named
tables_ok cat [] ts e = let p : ts ≡ [] = cc in rw p tt
tables_ok cat (x ∷ xs) ts e = named_elim cat x xs ts e λ t us f g p. rw p ((named_is x.name cat t f).0, tables_ok cat xs us g)
