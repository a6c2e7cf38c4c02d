-- SELECT as its writer goes through it: the view's tree, its tests one before the other, its values one after the other.
-- Assumes nothing.
use Rattle.std.specs.Prelude.{ℕ, zero, suc, ◌+◌, ◌≡◌, List, [], ◌∷◌, ◌++◌, get_or}
use Rattle.word.specs.Refusal.{fine}
use Rattle.word.specs.Record.{rec_bytes}
use Rattle.class.specs.declared.Info.{Info}
use Rattle.cell.specs.declared.Type.TheVariants as T
use Rattle.cell.specs.declared.Value.TheVariants as X
use Rattle.catalogue.specs.Tables.{tables_from}
use Rattle.view.specs.Parse.{parse_view}
use Rattle.scope.specs.Table.{open_of}
use Rattle.scope.specs.Entry.{tables_in, classes_of}
use Rattle.scope.specs.declared.Scope.{Scope}
use Rattle.resolve.specs.Expr.{Select}
use Rattle.resolve.specs.Expr as expr
use Rattle.resolve.specs.Resolve.{Resolved, select, refused}
use Rattle.resolve.specs.Claims.{resolved_by, verdict_of, Accepted as Given}
use Rattle.resolve.specs.declared.Files.{Files}
use Rattle.resolve.specs.declared.Sums.{Sums}
use Rattle.tree.specs.Tree.{Tree, SelectTree, size, encode}
use Rattle.tree.specs.Trans.{fixed, as_tree}
use Rattle.tree.specs.Select.{test, translated}
use Rattle.tree.specs.Claims.{data_at, next_at, Accepted}
use Rattle.label.specs.Claims.{class_at}
use Rattle.label.specs.Rows.{row_item}

-- the resolved SELECT of a view; an empty one where the view was refused
unfoldable pub select_in : Resolved → Select
select_in (select s ts) = s
select_in (refused number place) = record { from = []; test = expr.Expr.const T.Null X.Null; values = [] }

unfoldable pub select_at : List ℕ → List ℕ → Files → Select
select_at c v f = select_in (resolved_by (tables_from c f.nc f.nc 0) (parse_view v))

-- THE TREE of a view, under clearance q
unfoldable pub tree_at : List ℕ → List ℕ → Files → ℕ → SelectTree
tree_at c v f q = translated f.k q (select_at c v f)

-- a view that was accepted: its structure, its names and its types
pub record Viewed (c ss v : List ℕ) (f : Files) : Type 0 where
  pub given : Given c ss v f
  pub sums : Sums
  pub fine : verdict_of f.k (resolved_by (tables_from c f.nc f.nc 0) (parse_view v)) ≡ fine sums

-- so many values in a row are accepted, in the scope of SELECT's block; their bytes
unfoldable pub Accepts : List ℕ → List ℕ → List ℕ → Files → List Scope → ℕ → ℕ → Type 0
Accepts c ss v f t zero m = Unit {0}
Accepts c ss v f t (suc i) m = Accepted c ss v f t 1 15 m × Accepts c ss v f t i (next_at v f 15 m)

unfoldable pub pair_bytes : List ℕ → List ℕ → Files → List Scope → ℕ → ℕ → List ℕ
pair_bytes c v f t zero m = []
pair_bytes c v f t (suc i) m = encode (data_at c v f t 1 15 m) ++ (encode (as_tree (class_at c v f t 1 15 m)) ++ pair_bytes c v f t i (next_at v f 15 m))

-- tests before the rest of a where: and(test, ..
unfoldable pub flat : List Tree → List ℕ
flat [] = []
flat (t ∷ ts) = rec_bytes 7 5 0 0 0 ++ (encode t ++ flat ts)

unfoldable pub flat_size : List Tree → ℕ
flat_size [] = 0
flat_size (t ∷ ts) = 1 + (size t + flat_size ts)

-- the tests of so many tables from table j on: ks has their classes, is what is known of their rows'
unfoldable pub test_bytes : ℕ → List ℕ → List Info → ℕ → ℕ → List ℕ
test_bytes q ks is j zero = []
test_bytes q ks is j (suc i) = flat (test q (fixed (get_or ks j 0))) ++ (flat (test q (row_item is j)) ++ test_bytes q ks is (suc j) i)

unfoldable pub test_size : ℕ → List ℕ → List Info → ℕ → ℕ → ℕ
test_size q ks is j zero = 0
test_size q ks is j (suc i) = flat_size (test q (fixed (get_or ks j 0))) + (flat_size (test q (row_item is j)) + test_size q ks is (suc j) i)

-- the classes of a block's tables
abbrev pub classes_in : List ℕ → ℕ → Scope → List ℕ
classes_in c n s = classes_of (tables_in (open_of c n s))

-- and(DOM(CLASS q, ..
unfoldable pub dom_bytes : ℕ → List ℕ
dom_bytes q = rec_bytes 7 5 0 0 0 ++ (rec_bytes 26 0 0 0 0 ++ rec_bytes 6 0 q 0 0)
