-- The row classes of a block, joined from the left up to one of its tables; and what is asked of the block's entry.
-- Assumes nothing.
use Rattle.std.specs.Prelude.{ℕ, zero, suc, ◌+◌, ◌*◌, ◌-◌, ◌≤◌, ◌≡◌, List, length, get_or}
use Rattle.class.specs.declared.Info.{Info}
use Rattle.class.specs.declared.Info.TheVariants.{Fixed}
use Rattle.view.specs.declared.Pick.{Pick}
use Rattle.scope.specs.Table.{open_of}
use Rattle.scope.specs.Entry.{count_in, tables_in, rows_of, Among}
use Rattle.scope.specs.declared.Scope.{Scope}
use Rattle.tree.specs.Tree.{tree_row_class}
use Rattle.tree.specs.Trans.{Class, fixed, by_info, join, choice}
use Rattle.tree.specs.Claims.{data_at, next_at, Accepted}
use Rattle.resolve.specs.declared.Asked.{Asked}
use Rattle.resolve.specs.declared.Asked.TheVariants as ask
use Rattle.resolve.specs.declared.Files.{Files}
use Rattle.label.specs.Claims.{class_at}

-- the row class of table j
unfoldable pub row_item : List Info → ℕ → Class
row_item is j = by_info (get_or is j (Fixed 0)) (tree_row_class 0 j)

-- those of the tables 0 to j, from the left
unfoldable pub rows_to : List Info → ℕ → Class
rows_to is zero = row_item is zero
rows_to is (suc j) = join (rows_to is j) (row_item is (suc j))

-- what is known of the rows of each table of a block, by its entry
abbrev pub rows_in : List ℕ → ℕ → Scope → List Info
rows_in c n s = rows_of (tables_in (open_of c n s))

-- those of all tables of a block
abbrev pub all_rows : List ℕ → ℕ → Scope → Class
all_rows c n s = rows_to (rows_in c n s) (count_in s - 1)

-- a block's entry: its tables are the catalogue's, one to four
pub record Rowed (c : List ℕ) (n : ℕ) (s : Scope) : Type 0 where
  pub long : 8 + 8 * n ≤ length c
  pub among : Among n s
  pub some : 1 ≤ count_in s
  pub few : count_in s ≤ 4
  pub counted : count_in s ≡ length (rows_in c n s)

-- what is read at one row: the row classes and the where's, which stands at record `at`; where the block has a value also the choice, under the where, of the value's class and 0
unfoldable pub at_where : List ℕ → List ℕ → Files → List Scope → ℕ → ℕ → ℕ → Scope → Class
at_where c v f t deep d at s = join (all_rows c f.nc s) (class_at c v f t deep d at)

unfoldable pub at_kept : List ℕ → List ℕ → Files → List Scope → ℕ → ℕ → ℕ → ℕ → Class
at_kept c v f t deep d at m = choice (data_at c v f t deep d at) (class_at c v f t deep d m) (fixed 0)

unfoldable pub at_valued : List ℕ → List ℕ → Files → List Scope → ℕ → ℕ → ℕ → Scope → Class
at_valued c v f t deep d at s = join (at_where c v f t deep d at s) (at_kept c v f t deep d at (next_at v f d at))

-- EXISTS and COUNT have no value; VALUE, MAX and MIN have one
unfoldable pub at_row : Asked → List ℕ → List ℕ → Files → List Scope → ℕ → ℕ → ℕ → Scope → Class
at_row (ask.Rows q) c v f t deep d at s = at_where c v f t deep d at s
at_row (ask.Values g) c v f t deep d at s = at_valued c v f t deep d at s

-- where a block has a value, it is accepted, after the where at record `at`
pub record Valued (asked : Asked) (c ss v : List ℕ) (f : Files) (t : List Scope) (deep d at : ℕ) : Type 0 where
  pub value : (g : Pick) → asked ≡ ask.Values g → Accepted c ss v f t deep d (next_at v f d at)
