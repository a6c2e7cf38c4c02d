-- What the writers say of a value, over the level that they are at and a writer: its data, its type, what is known of its class, the next record; and room for bytes.
-- Assumes nothing.
use Rattle.std.specs.Prelude.{ℕ, ◌+◌, ◌≤◌, ◌≡◌, List, length}
use Rattle.word.specs.Refusal.{Checked}
use Rattle.word.specs.declared.writer.Writer.{Writer}
use Rattle.cell.specs.declared.Type.{«Type» as Ty}
use Rattle.view.specs.Parse.{names_at}
use Rattle.scope.specs.declared.Scope.{Scope}
use Rattle.scope.specs.Blocks.{tables_named}
use Rattle.scope.specs.Entry.{opened_by}
use Rattle.resolve.specs.Claims.{or_no_table, tables_in, Tabled}
use Rattle.resolve.specs.declared.Files.{Files}
use Rattle.resolve.specs.declared.Source.{Source}
use Rattle.tree.specs.Tree.{Tree}
use Rattle.tree.specs.Trans.{nums}
use Rattle.tree.specs.Claims.{type_at, info_at, data_at, limb_at, next_at, refs_at, Accepted}
use Rattle.tree.specs.declared.Level.{Level}
use Rattle.tree.specs.declared.Part.{Part}

-- the value at a record
abbrev pub data_in : Level → ℕ → Tree
data_in l at = data_at l.source.now.cat.now l.source.now.view.now l.source.now.files l.scopes.now l.deep l.depth at

abbrev pub limb_in : Level → ℕ → Ty → Tree
limb_in l at r = limb_at l.source.now.cat.now l.source.now.view.now l.source.now.files l.scopes.now l.deep l.depth at r

-- the record after it
abbrev pub next_in : Level → ℕ → ℕ
next_in l at = next_at l.source.now.view.now l.source.now.files l.depth at

-- it is accepted
abbrev pub AcceptedIn : Level → ℕ → Type 0
AcceptedIn l at = Accepted l.source.now.cat.now l.source.now.starts.now l.source.now.view.now l.source.now.files l.scopes.now l.deep l.depth at

-- what is known of it
pub record Told (c v : List ℕ) (f : Files) (t : List Scope) (deep d at : ℕ) (r : Part) : Type 0 where
  pub ty_is : r.ty ≡ type_at c v f t deep d at
  pub info_is : r.info ≡ info_at c v f t deep d at
  pub next_is : r.next ≡ next_at v f d at

abbrev pub ToldIn : Level → ℕ → Part → Type 0
ToldIn l at r = Told l.source.now.cat.now l.source.now.view.now l.source.now.files l.scopes.now l.deep l.depth at r

-- the numbers of the tables that so many TABLE records name, from record `at` on, and that they are all in the catalogue
abbrev pub numbers_in : Source → ℕ → ℕ → List ℕ
numbers_in s at count = nums (refs_at s.cat.now s.files.nc s.view.now at count)

abbrev pub TabledIn : Source → ℕ → ℕ → Type 0
TabledIn s at count = Tabled s.cat.now s.files.nc s.starts.now s.files.tables s.view.now at count

-- the entry of a block over them
abbrev pub opened_in : Source → ℕ → ℕ → Checked Scope
opened_in s at count = or_no_table (opened_by s.starts.now (tables_named (tables_in s) (names_at s.view.now at count)))

-- a writer has room for these bytes
pub record Fits (xs : List ℕ) (w : Writer) : Type 0 where
  pub within : w.at + length xs ≤ length w.out.now
