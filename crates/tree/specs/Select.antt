-- SELECT: its where with the tests, b pairs of data and class; and the declared bounds of the answer's columns.
-- Assumes nothing.
use Rattle.std.specs.Prelude.{ℕ, suc, cond, List, [], ◌∷◌, ◌++◌, map}
use Rattle.class.specs.Class.{dominatesb}
use Rattle.class.specs.declared.Info.{Info}
use Rattle.class.specs.declared.Info.TheVariants.{Fixed}
use Rattle.catalogue.specs.Tables.{TabRef}
use Rattle.resolve.specs.Expr.{Expr, Select}
use Rattle.tree.specs.Tree.{Tree, SelectTree, tree_binop, tree_dom, tree_row_class, tree_class}
use Rattle.tree.specs.Trans.{expr_data, expr_class, Class, fixed, as_tree, bound, by_info, nums}

-- a test DOM(CLASS q, class), left out if q dominates the fixed class or bound
unfoldable pub test : ℕ → Class → List Tree
test q i = cond (dominatesb q (bound i)) [] (tree_dom (tree_class q) (as_tree i) ∷ [])

-- for each table its table class, then its row class
unfoldable pub table_tests : ℕ → ℕ → List TabRef → List Tree
table_tests q n [] = []
table_tests q n (t ∷ ts) =
    test q (fixed t.table.tclass) ++ (test q (by_info t.table.row (tree_row_class 0 n)) ++ table_tests q (suc n) ts)

-- and(t1, and(t2, .. d))
unfoldable pub conj : List Tree → Tree → Tree
conj [] d = d
conj (t ∷ ts) d = tree_binop 5 0 t (conj ts d)

-- the only open scope is SELECT's own block
abbrev pub root : List Info
root = Fixed 0 ∷ []

-- THE TREE of a view: k the class of its constants, q the clearance
unfoldable pub translated : ℕ → ℕ → Select → SelectTree
translated k q s =
    record {
      tabs = nums s.from;
      test = conj (table_tests q 0 s.from ++ test q (expr_class k root s.test)) (expr_data s.test);
      pairs = map (λ v. (expr_data v, as_tree (expr_class k root v))) s.values;
    }

-- an answer column's declared bound
abbrev pub declared_bound : ℕ → Expr → ℕ
declared_bound k v = bound (expr_class k root v)
