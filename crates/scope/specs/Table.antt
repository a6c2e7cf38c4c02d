-- The table of open scopes: what its entries say. The innermost scope is the last entry; over a catalogue c of n records.
-- Assumes nothing.
use Rattle.std.specs.Prelude.{ℕ, zero, suc, ◌+◌, min, List, [], ◌∷◌, get_or}
use Rattle.class.specs.declared.Info.{Info}
use Rattle.class.specs.declared.Info.TheVariants.{Fixed}
use Rattle.cell.specs.declared.Type.TheVariants as T
use Rattle.catalogue.specs.Tables.{Table, table_at}
use Rattle.scope.specs.Scopes.{Open, block, local, Hit, column, bound, Only, none, one, more}
use Rattle.scope.specs.Entry.{table_in, info_in, local_scope}
use Rattle.scope.specs.declared.Scope.{Scope}
use Rattle.scope.specs.declared.Scope.TheVariants as S
use Rattle.scope.specs.declared.Found.{Found}
use Rattle.scope.specs.declared.Found.TheVariants as F

-- so many tables of an entry, from number i on
unfoldable pub tabs_at : List ℕ → ℕ → Scope → ℕ → ℕ → List Table
tabs_at c n s i zero = []
tabs_at c n s i (suc k) = table_at c n (table_in s i) ∷ tabs_at c n s (i + 1) k

-- what an entry says
unfoldable pub open_of : List ℕ → ℕ → Scope → Open
open_of c n (S.Block b) = block (tabs_at c n (S.Block b) 0 (min b.count 4))
open_of c n (S.Local l) = local l.name l.ty

-- no entry
abbrev pub blank : Scope
blank = local_scope 0 T.Null (Fixed 0)

-- the open scopes, the innermost first: d entries of the table
unfoldable pub scopes_of : List ℕ → ℕ → List Scope → ℕ → List Open
scopes_of c n ws zero = []
scopes_of c n ws (suc d) = open_of c n (get_or ws d blank) ∷ scopes_of c n ws d

-- what is known of each scope's class: of a local's; a block has none of its own
unfoldable pub infos_of : List Scope → ℕ → List Info
infos_of ws zero = []
infos_of ws (suc d) = info_in (get_or ws d blank) ∷ infos_of ws d

-- the code's answer
unfoldable pub found_of : List Info → Only Hit → Found
found_of is none = F.None
found_of is (one (column a b c t k)) = F.Column a b c k.ty k.info t.row
found_of is (one (bound a t)) = F.Local a t (get_or is a (Fixed 0))
found_of is more = F.Ambiguous
