-- Names: the open scopes, and the one match in the nearest scope.
-- Assumes nothing.
use Rattle.std.specs.Prelude.{ℕ, ◌+◌, cond, ◌&&◌, ◌||◌, List, [], ◌∷◌, ◌++◌, eqb}
use Rattle.cell.specs.declared.Type.{«Type» as Ty}
use Rattle.catalogue.specs.Tables.{Table, Column}

-- an open scope: a block's tables; or a LET body's local, its name and its type
pub data Open : Type 0 where
  block : List Table → Open
  local : ℕ → Ty → Open

-- a match: scopes outward, table in block, column, with table and column themselves; or scopes outward, with the local's type
pub data Hit : Type 0 where
  column : ℕ → ℕ → ℕ → Table → Column → Hit
  bound : ℕ → Ty → Hit

-- none, the only one, several
pub data Only (A : Type 0) : Type 0 where
  none : Only A
  one : A → Only A
  more : Only A

unfoldable pub only_of : {A : Type 0} → List A → Only A
only_of [] = none
only_of (x ∷ []) = one x
only_of (x ∷ (y ∷ zs)) = more

-- all matches of one scope, gathered: a scopes outward, table b of the block, from column c on
unfoldable pub in_cols : ℕ → ℕ → ℕ → Table → ℕ → List Column → List Hit
in_cols name a b t c [] = []
in_cols name a b t c (k ∷ ks) = cond (eqb k.cname name) (column a b c t k ∷ []) [] ++ in_cols name a b t (c + 1) ks

-- q is the table's name, or 0 for a bare name
unfoldable pub in_table : ℕ → ℕ → ℕ → ℕ → Table → List Hit
in_table name q a b t = cond (eqb q 0 || eqb t.tname q) (in_cols name a b t 0 t.cols) []

unfoldable pub in_tabs : ℕ → ℕ → ℕ → ℕ → List Table → List Hit
in_tabs name q a b [] = []
in_tabs name q a b (t ∷ ts) = in_table name q a b t ++ in_tabs name q a (b + 1) ts

-- a bare name matches columns and locals; a qualified one matches columns of tables of that name
unfoldable pub in_scope : ℕ → ℕ → ℕ → Open → List Hit
in_scope name q a (block ts) = in_tabs name q a 0 ts
in_scope name q a (local m t) = cond (eqb q 0 && eqb m name) (bound a t ∷ []) []

-- none: go on. One: that is it. More: ambiguous
unfoldable pub nearest : {A : Type 0} → Only A → Only A → Only A
nearest none x = x
nearest (one h) x = one h
nearest more x = more

-- THE MATCH of a name, from the innermost scope outward, the first being a scopes outward
unfoldable pub find : ℕ → ℕ → ℕ → List Open → Only Hit
find name q a [] = none
find name q a (s ∷ Γ) = nearest (only_of (in_scope name q a s)) (find name q (a + 1) Γ)
