-- The class tree of what a name finds, where its class is no fixed one: COL, and CLASSOF.
-- Assumes nothing.
use Rattle.scope.specs.declared.Found.{Found}
use Rattle.scope.specs.declared.Found.TheVariants as F
use Rattle.tree.specs.Tree.{Tree, tree_class, tree_cell_class, tree_row_class, tree_local_class}

-- a cell's class, or a local's
unfoldable pub cell_tree : Found → Tree
cell_tree (F.Column a b c t i r) = tree_cell_class a b c
cell_tree (F.Local a t i) = tree_local_class a
cell_tree F.None = tree_class 0
cell_tree F.Ambiguous = tree_class 0

-- the class of its row
unfoldable pub row_tree : Found → Tree
row_tree (F.Column a b c t i r) = tree_row_class a b
row_tree (F.Local a t i) = tree_class 0
row_tree F.None = tree_class 0
row_tree F.Ambiguous = tree_class 0
