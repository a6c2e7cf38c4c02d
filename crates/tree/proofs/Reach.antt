-- How far a name reaches: what it finds is fewer scopes outward than are open, in one of four tables of its block, and its column is below the catalogue's number of records.
-- Assumes nothing.
use Prim.Native.Nat.{ℕ, zero, suc, ◌+◌, ◌-◌, ◌<◌, ◌≤◌, min}
use mathlib.Core.Path.{◌≡◌, refl, ap, subst}
use mathlib.Core.Bool.{Bool, true, false, cond, ◌&&◌, ◌||◌}
use mathlib.Core.List.{List, [], ◌∷◌, ◌++◌}
use native.Mathlib.Omega.{arith}
use lib.Dec.{eqb}
use lib.ListN.{length, get_or}
use Rattle.word.specs.Record.{kind_at}
use Rattle.catalogue.specs.Tables.{Table, Column, column_at, cols_from, table_at}
use Rattle.scope.specs.Scopes.{Open, block, local, Hit, column, bound, Only, one, only_of, in_cols, in_table, in_tabs, in_scope, nearest, find}
use Rattle.scope.specs.Entry.{table_in}
use Rattle.scope.specs.Table.{tabs_at, open_of, blank, scopes_of}
use Rattle.scope.specs.declared.Scope.{Scope}
use Rattle.scope.specs.declared.Scope.TheVariants as S

-- d scopes are open, over a catalogue of n records
module _ (d n : ℕ) where
  abbrev pub Near : Hit → Type 0
  Near (column a b c t k) = (a < d) × (b < 4) × (c < n)
  Near (bound a t) = a < d

  abbrev Nears : List Hit → Type 0
  Nears [] = Unit {0}
  Nears (h ∷ hs) = Near h × Nears hs

  -- no table has more columns than there are records; no block more than four tables
  abbrev Wide : List Table → Type 0
  Wide [] = Unit {0}
  Wide (t ∷ ts) = (length t.cols ≤ n) × Wide ts

  abbrev Fair : Open → Type 0
  Fair (block ts) = (length ts ≤ 4) × Wide ts
  Fair (local m t) = Unit {0}

  abbrev Fairs : List Open → Type 0
  Fairs [] = Unit {0}
  Fairs (s ∷ Γ) = Fair s × Fairs Γ

  nears_append : (xs ys : List Hit) → Nears xs → Nears ys → Nears (xs ++ ys)
  nears_append [] ys h k = k
  nears_append (x ∷ xs) ys h k = (h.0, nears_append xs ys h.1 k)

  nears_cond : (z : Bool) (xs : List Hit) → Nears xs → Nears (cond z xs [])
  nears_cond true xs h = h
  nears_cond false xs h = tt

  cols_near : (name a b : ℕ) (t : Table) (c : ℕ) (ks : List Column) → a < d → b < 4 → c + length ks ≤ n → Nears (in_cols name a b t c ks)
  unfolding in_cols
  cols_near name a b t c [] x y h = tt
  cols_near name a b t c (k ∷ ks) x y h =
      nears_append (cond (eqb k.cname name) (column a b c t k ∷ []) []) (in_cols name a b t (c + 1) ks)
      (nears_cond (eqb k.cname name) (column a b c t k ∷ []) ((x, y, omega arith), tt))
      (cols_near name a b t (c + 1) ks x y (omega arith))

  tabs_near : (name q a b : ℕ) (ts : List Table) → a < d → b + length ts ≤ 4 → Wide ts → Nears (in_tabs name q a b ts)
  unfolding in_tabs in_table
  tabs_near name q a b [] x y h = tt
  tabs_near name q a b (t ∷ ts) x y h =
      nears_append (in_table name q a b t) (in_tabs name q a (b + 1) ts)
      (nears_cond (eqb q 0 || eqb t.tname q) (in_cols name a b t 0 t.cols) (cols_near name a b t 0 t.cols x (omega arith) (omega (arith, h.0))))
      (tabs_near name q a (b + 1) ts x (omega arith) h.1)

  scope_near : (name q a : ℕ) (s : Open) → a < d → Fair s → Nears (in_scope name q a s)
  unfolding in_scope
  scope_near name q a (block ts) x h = tabs_near name q a 0 ts x (omega (arith, h.0)) h.1
  scope_near name q a (local m t) x h = nears_cond (eqb q 0 && eqb m name) (bound a t ∷ []) (x, tt)

  nearest_near : (hs : List Hit) (o : Only Hit) (h : Hit) → Nears hs → (o ≡ one h → Near h) → nearest (only_of hs) o ≡ one h → Near h
  unfolding nearest only_of
  nearest_near [] o h p k e = k e
  nearest_near (g ∷ []) o h p k e = let q : g ≡ h = cc in subst Near q p.0
  nearest_near (g ∷ (f ∷ hs)) o h p k e = let z : ◌≡◌ {A = ℕ} 0 1 = cc in absurd (omega arith)

  found_near : (name q a : ℕ) (Γ : List Open) (h : Hit) → a + length Γ ≤ d → Fairs Γ → find name q a Γ ≡ one h → Near h
  unfolding find
  found_near name q a [] h l r e = let z : ◌≡◌ {A = ℕ} 0 1 = cc in absurd (omega arith)
  found_near name q a (s ∷ Γ) h l r e =
      nearest_near (in_scope name q a s) (find name q (a + 1) Γ) h (scope_near name q a s (omega arith) r.0) (found_near name q (a + 1) Γ h (omega arith) r.1) e

-- ---- the open scopes are fair

cols_few : (c : List ℕ) (k i : ℕ) → length (cols_from c k i) ≤ k
unfolding cols_from
cols_few c zero i = omega arith
cols_few c (suc k) i = go (eqb (kind_at c i) 2) (cols_from c k (i + 1)) (cols_few c k (i + 1))
  where
    go : (b : Bool) (ks : List Column) → length ks ≤ k → length (cond b (column_at c i ∷ ks) []) ≤ suc k
    go true ks h = omega arith
    go false ks h = omega arith

table_wide : (c : List ℕ) (n i : ℕ) → length (table_at c n i).cols ≤ n
unfolding table_at
table_wide c n i = omega (arith, cols_few c (n - (i + 1)) (i + 1))

tabs_wide : (d : ℕ) (c : List ℕ) (n : ℕ) (s : Scope) (i k : ℕ) → Wide d n (tabs_at c n s i k)
unfolding tabs_at
tabs_wide d c n s i zero = tt
tabs_wide d c n s i (suc k) = (table_wide c n (table_in s i), tabs_wide d c n s (i + 1) k)

tabs_long : (c : List ℕ) (n : ℕ) (s : Scope) (i k : ℕ) → length (tabs_at c n s i k) ≡ k
unfolding tabs_at
tabs_long c n s i zero = refl
tabs_long c n s i (suc k) = ap suc (tabs_long c n s (i + 1) k)

open_fair : (d : ℕ) (c : List ℕ) (n : ℕ) (s : Scope) → Fair d n (open_of c n s)
unfolding open_of
open_fair d c n (S.Block b) = (omega (arith, tabs_long c n (S.Block b) 0 (min b.count 4)), tabs_wide d c n (S.Block b) 0 _)
open_fair d c n (S.Local l) = tt

scopes_fair : (d : ℕ) (c : List ℕ) (n : ℕ) (t : List Scope) (deep : ℕ) → Fairs d n (scopes_of c n t deep)
unfolding scopes_of
scopes_fair d c n t zero = tt
scopes_fair d c n t (suc deep) = (open_fair d c n (get_or t deep blank), scopes_fair d c n t deep)

scopes_long : (c : List ℕ) (n : ℕ) (t : List Scope) (deep : ℕ) → length (scopes_of c n t deep) ≡ deep
unfolding scopes_of
scopes_long c n t zero = refl
scopes_long c n t (suc deep) = ap suc (scopes_long c n t deep)

-- THE LAW
pub reach : (c : List ℕ) (n : ℕ) (t : List Scope) (deep name q : ℕ) (h : Hit) → find name q 0 (scopes_of c n t deep) ≡ one h → Near deep n h
reach c n t deep name q h e = found_near deep n name q 0 (scopes_of c n t deep) h (omega (arith, scopes_long c n t deep)) (scopes_fair deep c n t deep) e
