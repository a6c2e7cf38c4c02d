-- The data tree D follows the view; the class C is fixed, or a tree with a bound. Joins, choices, LET, blocks.
-- Assumes nothing.
use Rattle.std.specs.Prelude.{ℕ, suc, Bool, false, cond, List, [], ◌∷◌, ◌++◌, map, get_or, eqb}
use Rattle.class.specs.Class.{lub_of}
use Rattle.class.specs.declared.Info.{Info}
use Rattle.class.specs.declared.Info.TheVariants.{Fixed, Bound}
use Rattle.catalogue.specs.Tables.{TabRef}
use Rattle.resolve.specs.Expr.{Expr}
use Rattle.resolve.specs.Expr as expr
use Rattle.resolve.specs.Infos.{table_class}
use Rattle.tree.specs.Tree.{Tree, tree_const, tree_binop, tree_not, tree_if, tree_exists, tree_value, tree_data, tree_cell_class, tree_row_class, tree_local, tree_local_class, tree_conv, tree_bind, tree_bind_class, tree_lub, tree_agg, tree_class}

abbrev pub nums : List TabRef → List ℕ
nums ts = map (λ t. t.num) ts

-- THE DATA TREE: CLASSOF gives CELLCLASS, LET gives BIND
unfoldable pub expr_data : Expr → Tree
expr_data (expr.Expr.const t v) = tree_const t v
expr_data (expr.Expr.col a b c i) = tree_data a b c
expr_data (expr.Expr.classof a b c i) = tree_cell_class a b c
expr_data (expr.Expr.local a) = tree_local a
expr_data (expr.Expr.bin op p x y) = tree_binop op p (expr_data x) (expr_data y)
expr_data (expr.Expr.neg x) = tree_not (expr_data x)
expr_data (expr.Expr.conv p s x) = tree_conv p s (expr_data x)
expr_data (expr.Expr.if c x y) = tree_if (expr_data c) (expr_data x) (expr_data y)
expr_data (expr.Expr.letin x y) = tree_bind (expr_data x) (expr_data y)
expr_data (expr.Expr.exists f ts w) = tree_exists f (nums ts) (expr_data w)
expr_data (expr.Expr.single g ts w v) = tree_value g (nums ts) (expr_data w) (expr_data v)

-- a class: fixed, or a tree with a bound
pub data Class : Type 0 where
  fixed : ℕ → Class
  tree : Tree → ℕ → Class

unfoldable pub as_tree : Class → Tree
as_tree (fixed k) = tree_class k
as_tree (tree t b) = t

unfoldable pub bound : Class → ℕ
bound (fixed k) = k
bound (tree t b) = b

-- what is known of it
unfoldable pub info_of : Class → Info
info_of (fixed k) = Fixed k
info_of (tree t b) = Bound b

-- a fixed class as it is, another by the tree that reads it
unfoldable pub by_info : Info → Tree → Class
by_info (Fixed k) t = fixed k
by_info (Bound b) t = tree t b

-- joining: fixed with fixed is fixed; a tree with a fixed class, either way round, is LUB(tree, CLASS); two trees LUB in order
unfoldable pub join : Class → Class → Class
join (fixed a) (fixed b) = fixed (lub_of a b)
join (fixed a) (tree t b) = tree (tree_lub t (tree_class a)) (lub_of a b)
join (tree t a) (fixed b) = tree (tree_lub t (tree_class b)) (lub_of a b)
join (tree t a) (tree u b) = tree (tree_lub t u) (lub_of a b)

-- several from the left
unfoldable pub joins : Class → List Class → Class
joins i [] = i
joins i (j ∷ js) = joins (join i j) js

unfoldable pub join_all : List Class → Class
join_all [] = fixed 0
join_all (i ∷ is) = joins i is

unfoldable pub same_fixed : Class → Class → Bool
same_fixed (fixed a) (fixed b) = eqb a b
same_fixed (fixed a) (tree u b) = false
same_fixed (tree t a) (fixed b) = false
same_fixed (tree t a) (tree u b) = false

-- a choice of classes under D: fixed if both are fixed and equal, else IF, bound their lub
unfoldable pub choice : Tree → Class → Class → Class
choice d i j = cond (same_fixed i j) i (tree (tree_if d (as_tree i) (as_tree j)) (lub_of (bound i) (bound j)))

-- LET: fixed if the body's is; else BINDC, or BIND if the value's class is fixed
unfoldable pub let_class : Tree → Class → Class → Class
let_class d i (fixed k) = fixed k
let_class d (fixed a) (tree t b) = tree (tree_bind d t) b
let_class d (tree c a) (tree t b) = tree (tree_bind_class c d t) b

-- the row classes of a block in order, from table number n of the block
unfoldable pub row_classes : ℕ → List TabRef → List Class
row_classes n [] = []
row_classes n (t ∷ ts) = by_info t.table.row (tree_row_class 0 n) ∷ row_classes (suc n) ts

-- AGG over what is read at one row, a tree even over a fixed class; joined with the lub of the table classes as fixed
unfoldable pub block_class : List TabRef → List Class → Class
block_class ts is =
    join (tree (tree_agg (nums ts) (as_tree (join_all (row_classes 0 ts ++ is)))) (bound (join_all (row_classes 0 ts ++ is)))) (fixed (table_class ts))

-- THE CLASS: k is the class of constants; is has what is known of each open scope's local, innermost first (a block has none)
unfoldable pub expr_class : ℕ → List Info → Expr → Class
expr_class k is (expr.Expr.const t v) = fixed k
expr_class k is (expr.Expr.col a b c i) = by_info i (tree_cell_class a b c)
expr_class k is (expr.Expr.classof a b c i) = by_info i (tree_row_class a b)
expr_class k is (expr.Expr.local a) = by_info (get_or is a (Fixed 0)) (tree_local_class a)
expr_class k is (expr.Expr.bin op p x y) = join (expr_class k is x) (expr_class k is y)
expr_class k is (expr.Expr.neg x) = expr_class k is x
expr_class k is (expr.Expr.conv p s x) = expr_class k is x
expr_class k is (expr.Expr.if c x y) = join (expr_class k is c) (choice (expr_data c) (expr_class k is x) (expr_class k is y))
expr_class k is (expr.Expr.letin x y) = let_class (expr_data x) (expr_class k is x) (expr_class k (info_of (expr_class k is x) ∷ is) y)
expr_class k is (expr.Expr.exists f ts w) = block_class ts (expr_class k (Fixed 0 ∷ is) w ∷ [])
expr_class k is (expr.Expr.single g ts w v) =
    block_class ts (expr_class k (Fixed 0 ∷ is) w ∷ choice (expr_data w) (expr_class k (Fixed 0 ∷ is) v) (fixed 0) ∷ [])
