-- What the walk requires of its caller, and its answer for a whole view.
-- Assumes nothing.
use Rattle.std.specs.Prelude.{ℕ, ◌+◌, ◌*◌, ◌<◌, ◌≤◌, ◌≡◌, List, length, get_or, Result, Ok, Err}
use Rattle.word.specs.Refusal.{Checked, fine, refusal}
use Rattle.class.specs.declared.Info.{Info}
use Rattle.cell.specs.Types.{digits_of, scale_of}
use Rattle.cell.specs.declared.Type.{«Type» as Ty}
use Rattle.catalogue.specs.Tables.{Table, tables_from}
use Rattle.catalogue.specs.Starts.{StartsAre}
use Rattle.view.specs.Ast.{Exp, Block, Parsed, ok, refused, WasRead}
use Rattle.view.specs.Parse.{many, names_at, parse_block, parse_value, parse_view, check_of}
use Rattle.view.specs.declared.Node.{Node}
use Rattle.view.specs.declared.Node.TheVariants.{Exists, Single}
use Rattle.scope.specs.Scopes.{Open}
use Rattle.scope.specs.Table.{blank, scopes_of, infos_of}
use Rattle.scope.specs.Entry.{count_in, type_in, Among}
use Rattle.scope.specs.Blocks.{all, refs_of, tables_named}
use Rattle.scope.specs.declared.Scope.{Scope}
use Rattle.resolve.specs.Resolve.{Outs, goods, bads, resolve_all, Resolved, select, refused as denied, resolve_view}
use Rattle.resolve.specs.Sizes.{capped, pairs_size, sums_of}
use Rattle.resolve.specs.Typed.{typed_by}
use Rattle.resolve.specs.declared.Asked.{Asked}
use Rattle.resolve.specs.declared.Asked.TheVariants.{Rows, Values}
use Rattle.resolve.specs.declared.Files.{Files}
use Rattle.resolve.specs.declared.Known.{Known}
use Rattle.resolve.specs.declared.Source.{Source}
use Rattle.resolve.specs.declared.Sums.{Sums}

-- a catalogue's and a view's numbers are right
pub record Lent (c ss v : List ℕ) (f : Files) : Type 0 where
  pub cat_long : 8 + 8 * f.nc ≤ length c
  pub cat_few : f.nc ≤ 2080
  pub starts : StartsAre c f.nc f.tables ss
  pub view_long : 8 + 8 * f.n ≤ length v
  pub view_few : f.n ≤ 1024

-- a block's entry, or 6 at the TABLE record whose table is not in the catalogue
abbrev pub or_no_table : Result Scope ℕ → Checked Scope
or_no_table (Ok s) = fine s
or_no_table (Err p) = refusal 6 p

-- p and s of a fixed type are below 16, so that 16p+s is a byte
pub record Narrow (t : Ty) : Type 0 where
  pub digits : digits_of t < 16
  pub scale : scale_of t < 16

-- a value that was read at a record, with d levels left, under so many open scopes; the open locals' types are narrow
pub record Ready (c ss v : List ℕ) (f : Files) (t : List Scope) (deep d at : ℕ) : Type 0 where
  pub lent : Lent c ss v f
  pub sized : length t ≡ 16
  pub not_many : deep + d ≤ 16
  pub is_read : WasRead (parse_value v f.n d at)
  pub here : at < f.n
  pub left : 0 < d
  pub narrow : (j : ℕ) → j < deep → Narrow (type_in (get_or t j blank))

-- a block's entry: its tables are the catalogue's, and there is one
pub record Opening (c : List ℕ) (n : ℕ) (s : Scope) : Type 0 where
  pub long : 8 + 8 * n ≤ length c
  pub among : Among n s
  pub some : 1 ≤ count_in s

-- TABLE records whose tables are all in the catalogue
pub record Tabled (c : List ℕ) (n : ℕ) (ss : List ℕ) (tables : ℕ) (v : List ℕ) (at count : ℕ) : Type 0 where
  pub cat_long : 8 + 8 * n ≤ length c
  pub starts : StartsAre c n tables ss
  pub view_long : 8 + 8 * (at + count) ≤ length v
  pub few : count ≤ 4
  pub found : tables_named (tables_from c n n 0) (names_at v at count) ≡ all (refs_of (tables_named (tables_from c n n 0) (names_at v at count)))

-- the walk's answer there
abbrev pub answer_at : List ℕ → List ℕ → Files → List Scope → ℕ → ℕ → ℕ → Checked Known
answer_at c v f t deep d at =
    typed_by f.k (tables_from c f.nc f.nc 0) (scopes_of c f.nc t deep) (infos_of t deep) (parse_value v f.n d at)

-- a block's node, by what is asked of it
unfoldable pub block_node : Asked → ℕ → Node
block_node (Rows f) a = Exists a f
block_node (Values g) a = Single a g

-- THE ANSWER FOR A VIEW
unfoldable pub resolved_by : List Table → Parsed Block → Resolved
resolved_by cat (ok b end) = resolve_view cat b
resolved_by cat (refused number place) = denied number place

-- k is the class of the view's constants
unfoldable pub verdict_of : ℕ → Resolved → Checked Sums
verdict_of k (select s ts) = fine (sums_of k s)
verdict_of k (denied number place) = refusal number place

-- the same of several values
unfoldable pub resolved_all : List Table → List Open → Parsed (List Exp) → Outs
resolved_all cat Γ (ok es end) = resolve_all cat Γ es
resolved_all cat Γ (refused number place) = bads number place

unfoldable pub verdict_all : ℕ → List Info → Outs → Checked ℕ
verdict_all k is (goods xs ts) = fine (capped (pairs_size k is xs))
verdict_all k is (bads number place) = refusal number place

-- a catalogue whose numbers are right, and a view that the structural check took
pub record Accepted (c ss v : List ℕ) (f : Files) : Type 0 where
  pub cat_long : 8 + 8 * f.nc ≤ length c
  pub cat_few : f.nc ≤ 2080
  pub starts : StartsAre c f.nc f.tables ss
  pub taken : check_of v ≡ fine f.n

-- the root's block was read
pub record Rooted (c ss v : List ℕ) (f : Files) (tables values : ℕ) : Type 0 where
  pub lent : Lent c ss v f
  pub some_tables : 1 ≤ tables
  pub few_tables : tables ≤ 4
  pub is_read : WasRead (parse_block v f.n 15 (parse_value v f.n 15) tables values 1)

-- so many values were read from a record on, under the root's scope alone
pub record Several (c ss v : List ℕ) (f : Files) (t : List Scope) (count at : ℕ) : Type 0 where
  pub lent : Lent c ss v f
  pub sized : length t ≡ 16
  pub is_read : WasRead (many (parse_value v f.n 15) count at)
  pub narrow : (j : ℕ) → j < 1 → Narrow (type_in (get_or t j blank))

-- OF WHAT A WALK READS: the catalogue's tables, the open scopes, a value that is read, several, the root's block, the whole view
abbrev pub tables_in : Source → List Table
tables_in s = tables_from s.cat.now s.files.nc s.files.nc 0

abbrev pub scopes_in : Source → List Scope → ℕ → List Open
scopes_in s t deep = scopes_of s.cat.now s.files.nc t deep

abbrev pub value_in : Source → ℕ → ℕ → Parsed Exp
value_in s d at = parse_value s.view.now s.files.n d at

abbrev pub values_in : Source → List Scope → ℕ → ℕ → Outs
values_in s t count at = resolved_all (tables_in s) (scopes_in s t 1) (many (value_in s 15) count at)

abbrev pub root_in : Source → ℕ → ℕ → Resolved
root_in s tables count = resolved_by (tables_in s) (parse_block s.view.now s.files.n 15 (value_in s 15) tables count 1)

abbrev pub view_in : Source → Resolved
view_in s = resolved_by (tables_in s) (parse_view s.view.now)

-- the walk's answer over it, and what it requires
abbrev pub answer_in : Source → List Scope → ℕ → ℕ → ℕ → Checked Known
answer_in s t deep d at = answer_at s.cat.now s.view.now s.files t deep d at

abbrev pub ReadyIn : Source → List Scope → ℕ → ℕ → ℕ → Type 0
ReadyIn s t deep d at = Ready s.cat.now s.starts.now s.view.now s.files t deep d at

abbrev pub SeveralIn : Source → List Scope → ℕ → ℕ → Type 0
SeveralIn s t count at = Several s.cat.now s.starts.now s.view.now s.files t count at

abbrev pub RootedIn : Source → ℕ → ℕ → Type 0
RootedIn s tables count = Rooted s.cat.now s.starts.now s.view.now s.files tables count

abbrev pub AcceptedIn : Source → Type 0
AcceptedIn s = Accepted s.cat.now s.starts.now s.view.now s.files
