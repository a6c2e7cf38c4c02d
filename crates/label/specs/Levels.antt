-- The classes that are written, over the level of a writer.
-- Assumes nothing.
use Rattle.std.specs.Prelude.{ℕ, List}
use Rattle.scope.specs.declared.Scope.{Scope}
use Rattle.scope.specs.Table.{infos_of}
use Rattle.resolve.specs.Expr.{Select}
use Rattle.resolve.specs.declared.Asked.{Asked}
use Rattle.resolve.specs.declared.Source.{Source}
use Rattle.tree.specs.Tree.{SelectTree}
use Rattle.tree.specs.Trans.{Class}
use Rattle.tree.specs.declared.Level.{Level}
use Rattle.label.specs.Claims.{class_at}
use Rattle.label.specs.Rows.{Rowed, Valued, at_where, at_kept, at_row, at_valued}
use Rattle.label.specs.Whole.{Viewed, Accepts, select_at, tree_at, pair_bytes}
use Rattle.label.specs.Left.{LeftAll, LeftView, exprs_at}

-- the class of the value at a record
abbrev pub class_in : Level → ℕ → Class
class_in l at = class_at l.source.now.cat.now l.source.now.view.now l.source.now.files l.scopes.now l.deep l.depth at

-- what is read at one row of a block of entry s, whose where stands at a record
abbrev pub where_in : Level → ℕ → Scope → Class
where_in l at s = at_where l.source.now.cat.now l.source.now.view.now l.source.now.files l.scopes.now l.deep l.depth at s

abbrev pub kept_in : Level → ℕ → ℕ → Class
kept_in l at m = at_kept l.source.now.cat.now l.source.now.view.now l.source.now.files l.scopes.now l.deep l.depth at m

abbrev pub valued_in : Level → ℕ → Scope → Class
valued_in l at s = at_valued l.source.now.cat.now l.source.now.view.now l.source.now.files l.scopes.now l.deep l.depth at s

abbrev pub row_in : Level → ℕ → Scope → Asked → Class
row_in l at s asked = at_row asked l.source.now.cat.now l.source.now.view.now l.source.now.files l.scopes.now l.deep l.depth at s

-- the entry has tables of the catalogue; where a value is asked of the block, it is accepted
abbrev pub RowedIn : Level → Scope → Type 0
RowedIn l s = Rowed l.source.now.cat.now l.source.now.files.nc s

abbrev pub ValuedIn : Level → ℕ → Asked → Type 0
ValuedIn l at asked = Valued asked l.source.now.cat.now l.source.now.starts.now l.source.now.view.now l.source.now.files l.scopes.now l.deep l.depth at

-- an accepted view, its SELECT and its tree, what the walk left of it, and a row of its values
abbrev pub ViewedIn : Source → Type 0
ViewedIn s = Viewed s.cat.now s.starts.now s.view.now s.files

abbrev pub select_in : Source → Select
select_in s = select_at s.cat.now s.view.now s.files

abbrev pub tree_in : Source → ℕ → SelectTree
tree_in s q = tree_at s.cat.now s.view.now s.files q

abbrev pub LeftViewIn : Source → List ℕ → List ℕ → Type 0
LeftViewIn s ws es = LeftView s.cat.now s.view.now s.files ws es

abbrev pub AcceptsIn : Level → ℕ → ℕ → Type 0
AcceptsIn l count at = Accepts l.source.now.cat.now l.source.now.starts.now l.source.now.view.now l.source.now.files l.scopes.now count at

abbrev pub LeftAllIn : Level → List ℕ → List ℕ → ℕ → ℕ → Type 0
LeftAllIn l ws es count at =
    LeftAll l.source.now.files.k (infos_of l.scopes.now 1) ws es 1 (exprs_at l.source.now.cat.now l.source.now.view.now l.source.now.files l.scopes.now count at) at

abbrev pub pairs_in : Level → ℕ → ℕ → List ℕ
pairs_in l count at = pair_bytes l.source.now.cat.now l.source.now.view.now l.source.now.files l.scopes.now count at
