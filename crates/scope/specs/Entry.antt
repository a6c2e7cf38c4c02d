-- Entries of the table of open scopes: what one says, how a local's and a block's are made, and what is asked of a block's tables.
-- Assumes nothing.
use Rattle.std.specs.Prelude.{ℕ, zero, suc, ◌<◌, min, List, [], map, get_or, length, replicate, Result, Ok, Err}
use Rattle.word.specs.Buffer.{put}
use Rattle.class.specs.declared.Info.{Info}
use Rattle.class.specs.declared.Info.TheVariants.{Fixed}
use Rattle.cell.specs.declared.Type.{«Type» as Ty}
use Rattle.cell.specs.declared.Type.TheVariants as T
use Rattle.catalogue.specs.Tables.{Table, TabRef}
use Rattle.scope.specs.Scopes.{Open, block, local}
use Rattle.scope.specs.Blocks.{Tabs, all, missing}
use Rattle.scope.specs.declared.Scope.{Scope}
use Rattle.scope.specs.declared.Scope.TheVariants as S

-- HOW MANY TABLES; a local has none. A block has at most four tables; a count above 15 is taken as 15, so that it fits four bits
unfoldable pub count_in : Scope → ℕ
count_in (S.Block b) = min b.count 15
count_in (S.Local l) = 0

-- the record of table j
unfoldable pub table_in : Scope → ℕ → ℕ
table_in (S.Block b) j = get_or b.tables j 0
table_in (S.Local l) j = 0

-- what an entry says of a local; a block has no type or class of its own
unfoldable pub type_in : Scope → Ty
type_in (S.Block b) = T.Null
type_in (S.Local l) = l.ty

unfoldable pub info_in : Scope → Info
info_in (S.Block b) = Fixed 0
info_in (S.Local l) = l.info

-- a local's entry
unfoldable pub local_scope : ℕ → Ty → Info → Scope
local_scope m t i = S.Local (record { name = m; ty = t; info = i })

-- the entry of so many tables, by the numbers of their records; of no tables it is that of a local named 0, of type null
unfoldable pub block_scope : List ℕ → ℕ → Scope
block_scope ws zero = local_scope 0 T.Null (Fixed 0)
block_scope ws (suc k) = S.Block (record { tables = ws; count = suc k })

-- the numbers of the tables' records, where ss has that of each table of the catalogue
abbrev pub places_of : List ℕ → List TabRef → List ℕ
places_of ss ts = map (λ t. get_or ss t.num 0) ts

-- THE ENTRY of a block's tables; zeros stand after them. Or the number of the first TABLE record whose table is not in the catalogue
unfoldable pub opened_by : List ℕ → Tabs → Result Scope ℕ
opened_by ss (all ts) = Ok (block_scope (put (replicate 4 0) 0 (places_of ss ts)) (length ts))
opened_by ss (missing p) = Err p

-- a block's tables; a local has none
unfoldable pub tables_in : Open → List Table
tables_in (block ts) = ts
tables_in (local m t) = []

-- what is known of the class of each table's rows, and each table's class
abbrev pub rows_of : List Table → List Info
rows_of ts = map (λ t. t.row) ts

abbrev pub classes_of : List Table → List ℕ
classes_of ts = map (λ t. t.tclass) ts

-- the records that an entry names are among n
pub record Among (n : ℕ) (s : Scope) : Type 0 where
  pub below : (j : ℕ) → table_in s j < n
