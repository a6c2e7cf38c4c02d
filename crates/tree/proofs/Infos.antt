-- What is known of an expression's class without building its tree is what its class C says.
-- Assumes nothing.
use Prim.Native.Nat.{ℕ, suc}
use mathlib.Core.Path.{◌≡◌, refl, ◌∙◌, ap, ap₂}
use mathlib.Core.Bool.{Bool, true, false, cond}
use mathlib.Core.List.{List, [], ◌∷◌, ◌++◌, map}
use lib.ListN.{get_or}
use Rattle.class.specs.Class.{lub_of}
use Rattle.class.specs.Info.{bound_of, join_i, joins_i, same_i, choice_i}
use Rattle.class.specs.declared.Info.{Info}
use Rattle.class.specs.declared.Info.TheVariants.{Fixed, Bound}
use Rattle.catalogue.specs.Tables.{TabRef}
use Rattle.resolve.specs.Expr.{Expr}
use Rattle.resolve.specs.Expr as expr
use Rattle.resolve.specs.Infos.{table_class, join_all_i, block_i, class_info}
use Rattle.tree.specs.Tree.{Tree, tree_if, tree_cell_class, tree_row_class, tree_local_class}
use Rattle.tree.specs.Trans.{expr_data, expr_class, Class, fixed, tree, as_tree, bound, info_of, by_info, join, joins, join_all, same_fixed, choice, let_class, row_classes, block_class}

pub bound_info : (i : Class) → bound_of (info_of i) ≡ bound i
unfolding bound_of info_of bound
bound_info (fixed k) = refl
bound_info (tree t b) = refl

pub by_info_lem : (i : Info) (t : Tree) → info_of (by_info i t) ≡ i
unfolding info_of by_info
by_info_lem (Fixed k) t = refl
by_info_lem (Bound b) t = refl

pub join_info : (i j : Class) → info_of (join i j) ≡ join_i (info_of i) (info_of j)
unfolding info_of join join_i
join_info (fixed a) (fixed b) = refl
join_info (fixed a) (tree u b) = refl
join_info (tree t a) (fixed b) = refl
join_info (tree t a) (tree u b) = refl

same_info : (i j : Class) → same_fixed i j ≡ same_i (info_of i) (info_of j)
unfolding info_of same_fixed same_i
same_info (fixed a) (fixed b) = refl
same_info (fixed a) (tree u b) = refl
same_info (tree t a) (fixed b) = refl
same_info (tree t a) (tree u b) = refl

pub choice_info : (d : Tree) (i j : Class) → info_of (choice d i j) ≡ choice_i (info_of i) (info_of j)
unfolding info_of choice choice_i
choice_info d i j = rw (← same_info i j, bound_info i, bound_info j) (go (same_fixed i j))
  where
    go : (z : Bool) → info_of (cond z i (tree (tree_if d (as_tree i) (as_tree j)) (lub_of (bound i) (bound j)))) ≡ cond z (info_of i) (Bound (lub_of (bound i) (bound j)))
    go true = refl
    go false = refl

pub let_info : (d : Tree) (i j : Class) → info_of (let_class d i j) ≡ info_of j
unfolding info_of let_class
let_info d (fixed a) (fixed b) = refl
let_info d (fixed a) (tree u b) = refl
let_info d (tree t a) (fixed b) = refl
let_info d (tree t a) (tree u b) = refl

joins_info : (i : Class) (is : List Class) → info_of (joins i is) ≡ joins_i (info_of i) (map info_of is)
unfolding joins joins_i
joins_info i [] = refl
joins_info i (j ∷ js) = joins_info (join i j) js ∙ ap (λ x. joins_i x (map info_of js)) (join_info i j)

join_all_info : (is : List Class) → info_of (join_all is) ≡ join_all_i (map info_of is)
unfolding info_of join_all join_all_i
join_all_info [] = refl
join_all_info (i ∷ is) = joins_info i is

-- the row classes of a block, and then more
rows_info : (n : ℕ) (ts : List TabRef) (us : List Class) → map info_of (row_classes n ts ++ us) ≡ map (λ t. t.table.row) ts ++ map info_of us
unfolding row_classes
rows_info n [] us = refl
rows_info n (t ∷ ts) us = ap₂ ◌∷◌ (by_info_lem t.table.row (tree_row_class 0 n)) (rows_info (suc n) ts us)

pub block_info : (ts : List TabRef) (us : List Class) → info_of (block_class ts us) ≡ block_i ts (map info_of us)
unfolding block_class block_i info_of
block_info ts us =
    rw (← rows_info 0 ts us, ← join_all_info (row_classes 0 ts ++ us), bound_info (join_all (row_classes 0 ts ++ us)))
    (join_info _ (fixed (table_class ts)))

-- THE LAW: the class information of C is what the walk keeps
pub info_of_class : (k : ℕ) (is : List Info) (x : Expr) → info_of (expr_class k is x) ≡ class_info k is x
unfolding expr_class class_info info_of
info_of_class k is (expr.Expr.const t v) = refl
info_of_class k is (expr.Expr.col a b c i) = by_info_lem i (tree_cell_class a b c)
info_of_class k is (expr.Expr.classof a b c i) = by_info_lem i (tree_row_class a b)
info_of_class k is (expr.Expr.local a) = by_info_lem (get_or is a (Fixed 0)) (tree_local_class a)
info_of_class k is (expr.Expr.bin op p x y) =
    join_info (expr_class k is x) (expr_class k is y) ∙ ap₂ join_i (info_of_class k is x) (info_of_class k is y)
info_of_class k is (expr.Expr.neg x) = info_of_class k is x
info_of_class k is (expr.Expr.conv p s x) = info_of_class k is x
info_of_class k is (expr.Expr.if c x y) =
    join_info (expr_class k is c) (choice (expr_data c) (expr_class k is x) (expr_class k is y))
    ∙ ap₂ join_i (info_of_class k is c)
    (choice_info (expr_data c) (expr_class k is x) (expr_class k is y) ∙ ap₂ choice_i (info_of_class k is x) (info_of_class k is y))
info_of_class k is (expr.Expr.letin x y) =
    let_info (expr_data x) (expr_class k is x) (expr_class k (info_of (expr_class k is x) ∷ is) y)
    ∙ info_of_class k (info_of (expr_class k is x) ∷ is) y
    ∙ ap (λ i. class_info k (i ∷ is) y) (info_of_class k is x)
info_of_class k is (expr.Expr.exists f ts w) =
    block_info ts (expr_class k (Fixed 0 ∷ is) w ∷ []) ∙ ap (λ i. block_i ts (i ∷ [])) (info_of_class k (Fixed 0 ∷ is) w)
info_of_class k is (expr.Expr.single g ts w v) =
    block_info ts (expr_class k (Fixed 0 ∷ is) w ∷ choice (expr_data w) (expr_class k (Fixed 0 ∷ is) v) (fixed 0) ∷ [])
    ∙ ap₂ (λ i j. block_i ts (i ∷ j ∷ [])) (info_of_class k (Fixed 0 ∷ is) w)
    (choice_info (expr_data w) (expr_class k (Fixed 0 ∷ is) v) (fixed 0) ∙ ap (λ i. choice_i i (Fixed 0)) (info_of_class k (Fixed 0 ∷ is) v))
