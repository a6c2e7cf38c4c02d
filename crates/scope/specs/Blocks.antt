-- A block's tables: each TABLE record's name looked up in the catalogue (6).
-- Assumes nothing.
use Rattle.std.specs.Prelude.{ℕ, List, [], ◌∷◌, map}
use Rattle.cell.specs.Res.{Res, stuck, done}
use Rattle.catalogue.specs.Tables.{Table, TabRef, table_named}
use Rattle.view.specs.Ast.{TabName}
use Rattle.scope.specs.Scopes.{Open, block}

-- all tables of a block, or the place of the first that is not in the catalogue
pub data Tabs : Type 0 where
  all : List TabRef → Tabs
  missing : ℕ → Tabs

unfoldable pub before : TabRef → Tabs → Tabs
before t (all ts) = all (t ∷ ts)
before t (missing p) = missing p

unfoldable pub found_at : ℕ → Res TabRef → Tabs → Tabs
found_at at stuck rest = missing at
found_at at (done t) rest = before t rest

unfoldable pub tables_named : List Table → List TabName → Tabs
tables_named cat [] = all []
tables_named cat (x ∷ xs) = found_at x.at (table_named x.name cat) (tables_named cat xs)

-- the tables, where all are in the catalogue
unfoldable pub refs_of : Tabs → List TabRef
refs_of (all ts) = ts
refs_of (missing p) = []

-- the scope that a block opens
abbrev pub opened : List TabRef → Open
opened ts = block (map (λ t. t.table) ts)
