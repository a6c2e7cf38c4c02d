-- Matches as the code carries them: the answer of one scope, and the columns of a table that have a name.
-- Assumes nothing.
use Rattle.std.specs.Prelude.{ℕ, ◌+◌, ◌-◌, ◌<◌, ◌≤◌, ◌≡◌, Bool, true, false, List, [], ◌∷◌, Option, Some, None}
use Rattle.class.specs.declared.Info.{Info}
use Rattle.catalogue.specs.Tables.{Table, column_at, cols_from, table_at}
use Rattle.scope.specs.Scopes.{Hit, column, bound, Only, none, one, more, only_of, in_cols, in_table, in_tabs}
use Rattle.scope.specs.Table.{tabs_at}
use Rattle.scope.specs.declared.Scope.{Scope}
use Rattle.scope.specs.declared.Found.{Found}
use Rattle.scope.specs.declared.Found.TheVariants as F
use Rattle.scope.specs.declared.names.Matches.{Matches}
use Rattle.scope.specs.declared.names.Matches.TheVariants as N

-- the answer of one scope, whose local (if it has one) has a class of which this is known
unfoldable pub found_in : Info → Only Hit → Found
found_in i none = F.None
found_in i (one (column a b c t k)) = F.Column a b c k.ty k.info t.row
found_in i (one (bound a t)) = F.Local a t i
found_in i more = F.Ambiguous

-- there is a match, or more than one
unfoldable pub any_of : Only Hit → Bool
any_of none = false
any_of (one h) = true
any_of more = true

-- the matches among columns of a table, the first of which is that of record j: that column, and those after it
unfoldable pub first_by : List ℕ → ℕ → ℕ → ℕ → ℕ → ℕ → ℕ → Table → Option ℕ → List Hit
first_by c n i name a b k t None = []
first_by c n i name a b k t (Some j) = column a b (k + (j - i)) t (column_at c j) ∷ in_cols name a b t (k + (j - i) + 1) (cols_from c (n - (j + 1)) (j + 1))

-- the columns that stand from record i on, of n records: r is the record of the first that has the name
pub record FirstIs (c : List ℕ) (n i name : ℕ) (r : Option ℕ) : Type 0 where
  pub past : (j : ℕ) → r ≡ Some j → (i ≤ j) × (j < n)
  pub says : (a b k : ℕ) (t : Table) → in_cols name a b t k (cols_from c (n - i) i) ≡ first_by c n i name a b k t r

-- the only match in the table of record t, where its columns that have the name are these
unfoldable pub only_by : List ℕ → ℕ → ℕ → ℕ → ℕ → Matches → Only Hit
only_by c n t a b N.None = none
only_by c n t a b (N.One i) = one (column a b (i - (t + 1)) (table_at c n t) (column_at c i))
only_by c n t a b N.Several = more

-- THE MATCH in the table of record t, of n records: r is none, the record of the one column that has the name, or several
pub record MatchIs (c : List ℕ) (n t name q : ℕ) (r : Matches) : Type 0 where
  pub past : (i : ℕ) → r ≡ N.One i → (t < i) × (i < n)
  pub says : (a b : ℕ) → only_of (in_table name q a b (table_at c n t)) ≡ only_by c n t a b r

-- a block of so many tables: r says whether there is a match from table i on
pub record AnyIs (c : List ℕ) (n : ℕ) (s : Scope) (count name q i : ℕ) (r : Bool) : Type 0 where
  pub says : (a : ℕ) → r ≡ any_of (only_of (in_tabs name q a i (tabs_at c n s i (count - i))))
