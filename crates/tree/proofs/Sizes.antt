-- The sizes of trees: an encoding takes eight bytes a record, and D and C take as many records as was found without building them.
-- Assumes nothing.
use Prim.Native.Nat.{ℕ, suc, ◌+◌, ◌*◌}
use mathlib.Core.Path.{◌≡◌, refl, ◌∙◌, ap, ap₂}
use mathlib.Core.Bool.{Bool, true, false, cond}
use mathlib.Core.List.{List, [], ◌∷◌, ◌++◌, map}
use native.Mathlib.Omega.{arith}
use lib.Dec.{eqb}
use lib.ListN.{length, get_or, length-append}
use Rattle.word.proofs.Laws.{length_rec, length_header}
use Rattle.class.specs.Class.{lub_of}
use Rattle.class.specs.Info.{bound_of, join_i, same_i, choice_i}
use Rattle.class.specs.declared.Info.{Info}
use Rattle.class.specs.declared.Info.TheVariants.{Fixed, Bound}
use Rattle.catalogue.specs.Tables.{TabRef}
use Rattle.resolve.specs.Expr.{Expr}
use Rattle.resolve.specs.Expr as expr
use Rattle.resolve.specs.Infos.{table_class, class_info}
use Rattle.resolve.specs.declared.Weighed.{Weighed}
use Rattle.resolve.specs.Sizes.{size_d, sized_i, weighed, join_w, joins_w, join_all_w, choice_w, bind_size, let_w, rows_w, block_w, weigh}
use Rattle.tree.specs.Tree.{Tree, tree_const, tree_binop, tree_not, tree_if, tree_exists, tree_value, tree_data, tree_cell_class, tree_row_class, tree_local, tree_local_class, tree_conv, tree_bind, tree_bind_class, tree_lub, tree_dom, tree_agg, SelectTree, size, size_pairs, size_select, table_recs, encode, encode_pairs, encode_select, tree_file}
use Rattle.tree.specs.Trans.{expr_data, expr_class, Class, fixed, tree, as_tree, bound, info_of, by_info, nums, join, joins, join_all, same_fixed, choice, let_class, row_classes, block_class}

-- ---- encodings

pub length_tables : (ns : List ℕ) → length (table_recs ns) ≡ 8 * length ns
unfolding table_recs
length_tables [] = refl
length_tables (n ∷ ns) = simp (length-append, length_rec) (omega (arith, length_tables ns))

pub length_encode : (t : Tree) → length (encode t) ≡ 8 * size t
unfolding encode size
length_encode (tree_const t v) = length_rec _ _ _ _ _
length_encode (tree_binop op p x y) = simp (length-append, length_rec) (omega (arith, length_encode x, length_encode y))
length_encode (tree_not x) = simp (length-append, length_rec) (omega (arith, length_encode x))
length_encode (tree_if c x y) = simp (length-append, length_rec) (omega (arith, length_encode c, length_encode x, length_encode y))
length_encode (tree_exists f ns w) = simp (length-append, length_rec) (omega (arith, length_tables ns, length_encode w))
length_encode (tree_value g ns w v) = simp (length-append, length_rec) (omega (arith, length_tables ns, length_encode w, length_encode v))
length_encode (tree_data a b c) = length_rec _ _ _ _ _
length_encode (tree_cell_class a b c) = length_rec _ _ _ _ _
length_encode (tree_row_class a b) = length_rec _ _ _ _ _
length_encode (tree_local a) = length_rec _ _ _ _ _
length_encode (tree_local_class a) = length_rec _ _ _ _ _
length_encode (tree_conv p s x) = simp (length-append, length_rec) (omega (arith, length_encode x))
length_encode (tree_bind v b) = simp (length-append, length_rec) (omega (arith, length_encode v, length_encode b))
length_encode (tree_bind_class c v b) = simp (length-append, length_rec) (omega (arith, length_encode c, length_encode v, length_encode b))
length_encode (tree_lub x y) = simp (length-append, length_rec) (omega (arith, length_encode x, length_encode y))
length_encode (tree_dom x y) = simp (length-append, length_rec) (omega (arith, length_encode x, length_encode y))
length_encode (tree_agg ns x) = simp (length-append, length_rec) (omega (arith, length_tables ns, length_encode x))

pub length_pairs : (ps : List (Tree × Tree)) → length (encode_pairs ps) ≡ 8 * size_pairs ps
unfolding encode_pairs size_pairs
length_pairs [] = refl
length_pairs ((d, c) ∷ ps) = simp length-append (omega (arith, length_encode d, length_encode c, length_pairs ps))

pub length_select : (s : SelectTree) → length (encode_select s) ≡ 8 * size_select s
unfolding encode_select size_select
length_select s = simp (length-append, length_rec) (omega (arith, length_tables s.tabs, length_encode s.test, length_pairs s.pairs))

pub length_file : (s : SelectTree) → length (tree_file s) ≡ 8 + 8 * size_select s
unfolding tree_file
length_file s = simp (length-append, length_header) (omega (arith, length_select s))

-- ---- the data tree

length_nums : (ts : List TabRef) → length (nums ts) ≡ length ts
length_nums [] = refl
length_nums (t ∷ ts) = ap suc (length_nums ts)

pub size_data : (x : Expr) → size (expr_data x) ≡ size_d x
unfolding expr_data size size_d
size_data (expr.Expr.const t v) = refl
size_data (expr.Expr.col a b c i) = refl
size_data (expr.Expr.classof a b c i) = refl
size_data (expr.Expr.local a) = refl
size_data (expr.Expr.bin op p x y) = omega (arith, size_data x, size_data y)
size_data (expr.Expr.neg x) = omega (arith, size_data x)
size_data (expr.Expr.conv p s x) = omega (arith, size_data x)
size_data (expr.Expr.if c x y) = omega (arith, size_data c, size_data x, size_data y)
size_data (expr.Expr.letin x y) = omega (arith, size_data x, size_data y)
size_data (expr.Expr.exists f ts w) = omega (arith, length_nums ts, size_data w)
size_data (expr.Expr.single g ts w v) = omega (arith, length_nums ts, size_data w, size_data v)

-- ---- the class tree: what is known of it, and its size

pub weight_of : Class → Weighed
weight_of i = record { info = info_of i; size = size (as_tree i) }

weight_info : (i : Class) → info_of i ≡ (weight_of i).info
unfolding weight_of
weight_info i = refl

weight_size : (i : Class) → size (as_tree i) ≡ (weight_of i).size
unfolding weight_of
weight_size i = refl

one_cell : (a b c : ℕ) → size (tree_cell_class a b c) ≡ 1
unfolding size
one_cell a b c = refl

one_row : (a b : ℕ) → size (tree_row_class a b) ≡ 1
unfolding size
one_row a b = refl

one_local : (a : ℕ) → size (tree_local_class a) ≡ 1
unfolding size
one_local a = refl

local_info : (k : ℕ) (is : List Info) (a : ℕ) → get_or is a (Fixed 0) ≡ class_info k is (expr.Expr.local a)
unfolding class_info
local_info k is a = refl

pub by_weight : (i : Info) (t : Tree) → size t ≡ 1 → weight_of (by_info i t) ≡ weighed i 1
unfolding weight_of info_of by_info as_tree size sized_i
by_weight (Fixed k) t e = refl
by_weight (Bound b) t e = λ j. record { info = Bound b; size = e j }

pub fixed_weight : (k : ℕ) → weight_of (fixed k) ≡ weighed (Fixed k) 1
unfolding weight_of info_of as_tree size sized_i
fixed_weight k = refl

pub join_weight : (i j : Class) → weight_of (join i j) ≡ join_w (weight_of i) (weight_of j)
unfolding weight_of info_of join as_tree size join_w join_i sized_i
join_weight (fixed a) (fixed b) = refl
join_weight (fixed a) (tree u b) = let e : 1 + (size u + 1) ≡ 1 + (1 + size u) = omega arith in λ j. record { info = Bound (lub_of a b); size = e j }
join_weight (tree t a) (fixed b) = refl
join_weight (tree t a) (tree u b) = refl

joins_weight : (i : Class) (is : List Class) → weight_of (joins i is) ≡ joins_w (weight_of i) (map weight_of is)
unfolding joins joins_w
joins_weight i [] = refl
joins_weight i (j ∷ js) = joins_weight (join i j) js ∙ ap (λ (x : Weighed). joins_w x (map weight_of js)) (join_weight i j)

join_all_weight : (is : List Class) → weight_of (join_all is) ≡ join_all_w (map weight_of is)
unfolding join_all join_all_w
join_all_weight [] = fixed_weight 0
join_all_weight (i ∷ is) = joins_weight i is

pub choice_weight : (d : Tree) (i j : Class) → weight_of (choice d i j) ≡ choice_w (size d) (weight_of i) (weight_of j)
unfolding weight_of info_of choice choice_w choice_i same_i same_fixed as_tree size sized_i bound_of bound
choice_weight d (fixed a) (fixed b) = go (eqb a b)
  where
    go : (z : Bool) → weight_of (cond z (fixed a) (tree (tree_if d (as_tree (fixed a)) (as_tree (fixed b))) (lub_of a b))) ≡ weighed (cond z (Fixed a) (Bound (lub_of a b))) (1 + (size d + (1 + 1)))
    go true = refl
    go false = refl
choice_weight d (fixed a) (tree u b) = refl
choice_weight d (tree t a) (fixed b) = refl
choice_weight d (tree t a) (tree u b) = refl

pub let_weight : (d : Tree) (i j : Class) → weight_of (let_class d i j) ≡ let_w (size d) (weight_of i) (weight_of j)
unfolding weight_of info_of let_class let_w bind_size as_tree size sized_i
let_weight d (fixed a) (fixed b) = refl
let_weight d (fixed a) (tree u b) = refl
let_weight d (tree t a) (fixed b) = refl
let_weight d (tree t a) (tree u b) = refl

rows_weight : (n : ℕ) (ts : List TabRef) (us : List Class) → map weight_of (row_classes n ts ++ us) ≡ rows_w ts ++ map weight_of us
unfolding row_classes rows_w
rows_weight n [] us = refl
rows_weight n (t ∷ ts) us = ap₂ ◌∷◌ (by_weight t.table.row (tree_row_class 0 n) (one_row 0 n)) (rows_weight (suc n) ts us)

agg_weight : (ns : List ℕ) (i : Class) → weight_of (tree (tree_agg ns (as_tree i)) (bound i)) ≡ weighed (Bound (bound_of (weight_of i).info)) (1 + (length ns + (weight_of i).size))
unfolding weight_of info_of as_tree size sized_i bound bound_of
agg_weight ns (fixed k) = refl
agg_weight ns (tree t b) = refl

abbrev block_by : List TabRef → ℕ → Weighed → Weighed
block_by ts n w = join_w (weighed (Bound (bound_of w.info)) (1 + (n + w.size))) (weighed (Fixed (table_class ts)) 1)

pub block_weight : (ts : List TabRef) (us : List Class) → weight_of (block_class ts us) ≡ block_w ts (map weight_of us)
unfolding block_class block_w
block_weight ts us =
    join_weight (tree (tree_agg (nums ts) (as_tree (join_all (row_classes 0 ts ++ us)))) (bound (join_all (row_classes 0 ts ++ us)))) (fixed (table_class ts))
    ∙ ap₂ join_w (agg_weight (nums ts) (join_all (row_classes 0 ts ++ us))) (fixed_weight (table_class ts))
    ∙ ap₂ (block_by ts) (length_nums ts) (join_all_weight (row_classes 0 ts ++ us) ∙ ap join_all_w (rows_weight 0 ts us))

-- THE LAW: what the walk finds of a class and of its size is what C has
pub weight_of_class : (k : ℕ) (is : List Info) (x : Expr) → weight_of (expr_class k is x) ≡ weigh k is x
unfolding expr_class weigh
weight_of_class k is (expr.Expr.const t v) = fixed_weight k
weight_of_class k is (expr.Expr.col a b c i) = by_weight i (tree_cell_class a b c) (one_cell a b c)
weight_of_class k is (expr.Expr.classof a b c i) = by_weight i (tree_row_class a b) (one_row a b)
weight_of_class k is (expr.Expr.local a) =
    by_weight (get_or is a (Fixed 0)) (tree_local_class a) (one_local a) ∙ ap (λ (i : Info). weighed i 1) (local_info k is a)
weight_of_class k is (expr.Expr.bin op p x y) =
    join_weight (expr_class k is x) (expr_class k is y) ∙ ap₂ join_w (weight_of_class k is x) (weight_of_class k is y)
weight_of_class k is (expr.Expr.neg x) = weight_of_class k is x
weight_of_class k is (expr.Expr.conv p s x) = weight_of_class k is x
weight_of_class k is (expr.Expr.if c x y) =
    join_weight (expr_class k is c) (choice (expr_data c) (expr_class k is x) (expr_class k is y))
    ∙ ap₂ join_w (weight_of_class k is c)
    (choice_weight (expr_data c) (expr_class k is x) (expr_class k is y)
    ∙ ap (λ (n : ℕ). choice_w n (weight_of (expr_class k is x)) (weight_of (expr_class k is y))) (size_data c)
    ∙ ap₂ (choice_w (size_d c)) (weight_of_class k is x) (weight_of_class k is y))
weight_of_class k is (expr.Expr.letin x y) =
    let_weight (expr_data x) (expr_class k is x) (expr_class k (info_of (expr_class k is x) ∷ is) y)
    ∙ ap (λ (n : ℕ). let_w n (weight_of (expr_class k is x)) (weight_of (expr_class k (info_of (expr_class k is x) ∷ is) y))) (size_data x)
    ∙ ap₂ (let_w (size_d x)) (weight_of_class k is x)
    (weight_of_class k (info_of (expr_class k is x) ∷ is) y ∙ ap (λ (i : Info). weigh k (i ∷ is) y) (weight_info (expr_class k is x) ∙ ap (λ (w : Weighed). w.info) (weight_of_class k is x)))
weight_of_class k is (expr.Expr.exists f ts w) =
    block_weight ts (expr_class k (Fixed 0 ∷ is) w ∷ []) ∙ ap (λ (u : Weighed). block_w ts (u ∷ [])) (weight_of_class k (Fixed 0 ∷ is) w)
weight_of_class k is (expr.Expr.single g ts w v) =
    block_weight ts (expr_class k (Fixed 0 ∷ is) w ∷ choice (expr_data w) (expr_class k (Fixed 0 ∷ is) v) (fixed 0) ∷ [])
    ∙ ap₂ (λ (a b : Weighed). block_w ts (a ∷ b ∷ [])) (weight_of_class k (Fixed 0 ∷ is) w)
    (choice_weight (expr_data w) (expr_class k (Fixed 0 ∷ is) v) (fixed 0)
    ∙ ap (λ (n : ℕ). choice_w n (weight_of (expr_class k (Fixed 0 ∷ is) v)) (weight_of (fixed 0))) (size_data w)
    ∙ ap₂ (choice_w (size_d w)) (weight_of_class k (Fixed 0 ∷ is) v) (fixed_weight 0))

pub size_class : (k : ℕ) (is : List Info) (x : Expr) → size (as_tree (expr_class k is x)) ≡ (weigh k is x).size
size_class k is x = weight_size (expr_class k is x) ∙ ap (λ (w : Weighed). w.size) (weight_of_class k is x)
