-- The trees of a resolved value fit their records and open no more scopes than the value does: its data tree, and its class.
-- Assumes nothing.
use Prim.Native.Nat.{ℕ, zero, suc, ◌+◌, ◌<◌, ◌≤◌, max}
use mathlib.Core.Path.{◌≡◌, refl}
use mathlib.Core.Bool.{Bool, true, false, cond}
use mathlib.Core.List.{List, [], ◌∷◌, ◌++◌}
use native.Mathlib.Omega.{arith}
use borrow.Author.Tests.{lt-ltb}
use lib.ListN.{length, get_or, length-map}
use Rattle.class.specs.Class.{lub_of}
use Rattle.class.specs.Info.{bound_of}
use Rattle.class.specs.declared.Info.{Info}
use Rattle.class.specs.declared.Info.TheVariants.{Fixed, Bound}
use Rattle.class.proofs.Laws.{lub_fits}
use Rattle.cell.specs.Types.{kind_of}
use Rattle.cell.specs.Values.{is_null, ok_class}
use Rattle.cell.specs.declared.Type.TheVariants as T
use Rattle.cell.specs.declared.Value.TheVariants as X
use Rattle.catalogue.specs.Tables.{Table, TabRef}
use Rattle.store.specs.Rows.{All}
use Rattle.resolve.specs.Expr.{Expr}
use Rattle.resolve.specs.Expr as expr
use Rattle.resolve.specs.Infos.{table_class}
use Rattle.tree.specs.Tree.{Tree, tree_if, tree_cell_class, tree_row_class, tree_local_class, tree_agg}
use Rattle.tree.specs.Trans.{expr_data, expr_class, Class, fixed, tree, as_tree, bound, info_of, by_info, nums, join, joins, join_all, same_fixed, choice, let_class, row_classes, block_class}
use Rattle.packed.specs.Constants.{Constant}
use Rattle.run.specs.Stands.{FoldFits, Fits, scopes}
use Rattle.reading.proofs.Lists.{all_append}

-- ---- what a resolved value keeps

-- the classes of a table are 16-bit words
pub record TableSmall (t : Table) : Type 0 where
  pub class_small : t.tclass < 65536
  pub row_small : bound_of t.row < 65536
  pub cells_small : All (λ k. bound_of k.info < 65536) t.cols

-- a block's tables: 1 to 4, with classes that are words
pub record TabsFit (ts : List TabRef) : Type 0 where
  pub some : 1 ≤ length ts
  pub few : length ts ≤ 4
  pub small : All (λ t. TableSmall t.table) ts

-- constants of their types, classes that are words, digits in rule
unfoldable pub Sound : Expr → Type 0
Sound (expr.Expr.const t v) = Constant t v
Sound (expr.Expr.col a b c i) = bound_of i < 65536
Sound (expr.Expr.classof a b c i) = bound_of i < 65536
Sound (expr.Expr.local a) = Unit {0}
Sound (expr.Expr.bin op p x y) = Sound x × Sound y × (p < 256)
Sound (expr.Expr.neg x) = Sound x
Sound (expr.Expr.conv p s x) = Sound x × (p ≤ 9) × (s ≤ 4)
Sound (expr.Expr.if c x y) = Sound c × Sound x × Sound y
Sound (expr.Expr.letin x y) = Sound x × Sound y
Sound (expr.Expr.exists q ts w) = TabsFit ts × Sound w × FoldFits q
Sound (expr.Expr.single q ts w v) = TabsFit ts × Sound w × Sound v

-- how many scopes it opens, one inside the other
unfoldable pub deep : Expr → ℕ
deep (expr.Expr.const t v) = 0
deep (expr.Expr.col a b c i) = 0
deep (expr.Expr.classof a b c i) = 0
deep (expr.Expr.local a) = 0
deep (expr.Expr.bin op p x y) = max (deep x) (deep y)
deep (expr.Expr.neg x) = deep x
deep (expr.Expr.conv p s x) = deep x
deep (expr.Expr.if c x y) = max (deep c) (max (deep x) (deep y))
deep (expr.Expr.letin x y) = max (deep x) (1 + deep y)
deep (expr.Expr.exists q ts w) = 1 + deep w
deep (expr.Expr.single q ts w v) = 1 + max (deep w) (deep v)

-- ---- the data tree

nums_length : (ts : List TabRef) → length (nums ts) ≡ length ts
nums_length ts = length-map ts (λ t. t.num)

pub data_fits : (x : Expr) → Sound x → Fits (expr_data x)
unfolding Sound expr_data Fits
data_fits (expr.Expr.const t v) h = h
data_fits (expr.Expr.col a b c i) h = tt
data_fits (expr.Expr.classof a b c i) h = tt
data_fits (expr.Expr.local a) h = tt
data_fits (expr.Expr.bin op p x y) (h, g, l) = (data_fits x h, data_fits y g, l)
data_fits (expr.Expr.neg x) h = data_fits x h
data_fits (expr.Expr.conv p s x) (h, l, m) = (data_fits x h, l, m)
data_fits (expr.Expr.if c x y) (f, h, g) = (data_fits c f, data_fits x h, data_fits y g)
data_fits (expr.Expr.letin x y) (h, g) = (data_fits x h, data_fits y g)
data_fits (expr.Expr.exists q ts w) (t, h, f) = rw (nums_length ts) (t.some, t.few, data_fits w h, f)
data_fits (expr.Expr.single q ts w v) (t, h, g) = rw (nums_length ts) (t.some, t.few, data_fits w h, data_fits v g)

pub data_scopes : (x : Expr) → scopes (expr_data x) ≤ deep x
unfolding expr_data scopes deep
data_scopes (expr.Expr.const t v) = omega arith
data_scopes (expr.Expr.col a b c i) = omega arith
data_scopes (expr.Expr.classof a b c i) = omega arith
data_scopes (expr.Expr.local a) = omega arith
data_scopes (expr.Expr.bin op p x y) = omega (arith, data_scopes x, data_scopes y)
data_scopes (expr.Expr.neg x) = data_scopes x
data_scopes (expr.Expr.conv p s x) = data_scopes x
data_scopes (expr.Expr.if c x y) = omega (arith, data_scopes c, data_scopes x, data_scopes y)
data_scopes (expr.Expr.letin x y) = omega (arith, data_scopes x, data_scopes y)
data_scopes (expr.Expr.exists q ts w) = omega (arith, data_scopes w)
data_scopes (expr.Expr.single q ts w v) = omega (arith, data_scopes w, data_scopes v)

-- ---- classes

-- a class that is a word, or a tree that fits and opens at most d scopes, with a bound that is a word
abbrev pub ClassFits : ℕ → Class → Type 0
ClassFits d (fixed k) = k < 65536
ClassFits d (tree t b) = Fits t × (scopes t ≤ d) × (b < 65536)

pub class_const : (k : ℕ) → k < 65536 → Constant T.Class (X.Class k)
unfolding is_null kind_of
class_const k h = record { typed = ok_class (lt-ltb k 65536 h); null_is = refl }

-- its tree, and its bound
pub tree_fits : (d : ℕ) (i : Class) → ClassFits d i → Fits (as_tree i) × (scopes (as_tree i) ≤ d) × (bound i < 65536)
unfolding Fits scopes as_tree bound
tree_fits d (fixed k) h = (class_const k h, omega arith, h)
tree_fits d (tree t b) h = h

pub info_fits : (d : ℕ) (i : Class) → ClassFits d i → bound_of (info_of i) < 65536
unfolding info_of bound_of
info_fits d (fixed k) h = h
info_fits d (tree t b) h = h.2

fits_more : (d e : ℕ) (i : Class) → d ≤ e → ClassFits d i → ClassFits e i
fits_more d e (fixed k) l h = h
fits_more d e (tree t b) l (f, s, m) = (f, omega arith, m)

pub by_fits : (d : ℕ) (i : Info) (t : Tree) → bound_of i < 65536 → Fits t → scopes t ≤ d → ClassFits d (by_info i t)
unfolding by_info bound_of
by_fits d (Fixed k) t h f s = h
by_fits d (Bound b) t h f s = (f, s, h)

join_fits : (d : ℕ) (i j : Class) → ClassFits d i → ClassFits d j → ClassFits d (join i j)
unfolding join Fits scopes
join_fits d (fixed a) (fixed b) h g = lub_fits a b h g
join_fits d (fixed a) (tree t b) h (f, s, l) = ((f, class_const a h), omega arith, lub_fits a b h l)
join_fits d (tree t a) (fixed b) (f, s, l) g = ((f, class_const b g), omega arith, lub_fits a b l g)
join_fits d (tree t a) (tree u b) (f, s, l) (g, r, m) = ((f, g), omega arith, lub_fits a b l m)

joins_fits : (d : ℕ) (i : Class) (js : List Class) → ClassFits d i → All (ClassFits d) js → ClassFits d (joins i js)
unfolding joins
joins_fits d i [] h g = h
joins_fits d i (j ∷ js) h g = joins_fits d (join i j) js (join_fits d i j h g.0) g.1

all_fits : (d : ℕ) (js : List Class) → All (ClassFits d) js → ClassFits d (join_all js)
unfolding join_all
all_fits d [] h = omega arith
all_fits d (j ∷ js) h = joins_fits d j js h.0 h.1

choice_fits : (d : ℕ) (t : Tree) (i j : Class) → Fits t → scopes t ≤ d → ClassFits d i → ClassFits d j → ClassFits d (choice t i j)
unfolding choice Fits scopes
choice_fits d t i j f s h g = go (same_fixed i j)
  where
    go : (z : Bool) → ClassFits d (cond z i (tree (tree_if t (as_tree i) (as_tree j)) (lub_of (bound i) (bound j))))
    go true = h
    go false =
        let (a, b, c) = tree_fits d i h in
        let (u, v, w) = tree_fits d j g in
        ((f, a, u), omega arith, lub_fits (bound i) (bound j) c w)

let_fits : (n m : ℕ) (t : Tree) (i j : Class) → Fits t → scopes t ≤ n → ClassFits n i → ClassFits m j → ClassFits (max n (1 + m)) (let_class t i j)
unfolding let_class Fits scopes
let_fits n m t i (fixed k) f s h g = g
let_fits n m t (fixed a) (tree u b) f s h (g, r, l) = ((f, g), omega arith, l)
let_fits n m t (tree c a) (tree u b) f s (h, q, k) (g, r, l) = ((h, f, g), omega arith, l)

-- ---- blocks

pub rows_fit : (d n : ℕ) (ts : List TabRef) → All (λ t. TableSmall t.table) ts → All (ClassFits d) (row_classes n ts)
unfolding row_classes Fits scopes
rows_fit d n [] h = tt
rows_fit d n (t ∷ ts) h = (by_fits d t.table.row (tree_row_class 0 n) h.0.row_small tt (omega arith), rows_fit d (suc n) ts h.1)

tables_fit : (ts : List TabRef) → All (λ t. TableSmall t.table) ts → table_class ts < 65536
tables_fit [] h = omega arith
tables_fit (t ∷ ts) h = lub_fits t.table.tclass (table_class ts) h.0.class_small (tables_fit ts h.1)

block_fits : (d : ℕ) (ts : List TabRef) (is : List Class) → TabsFit ts → All (ClassFits d) is → ClassFits (1 + d) (block_class ts is)
unfolding block_class Fits scopes
block_fits d ts is h g =
    let (a, b, c) = tree_fits d (join_all (row_classes 0 ts ++ is)) (all_fits d (row_classes 0 ts ++ is) (all_append (ClassFits d) (row_classes 0 ts) is (rows_fit d 0 ts h.small) g)) in
    join_fits (1 + d) (tree (tree_agg (nums ts) (as_tree (join_all (row_classes 0 ts ++ is)))) (bound (join_all (row_classes 0 ts ++ is)))) (fixed (table_class ts))
    (rw (nums_length ts) (h.some, h.few, a), omega arith, c) (tables_fit ts h.small)

-- ---- the class of a value

-- what is known of the open locals' classes are words
abbrev pub Words : List Info → Type 0
Words is = (a : ℕ) → bound_of (get_or is a (Fixed 0)) < 65536

words_more : (i : Info) (is : List Info) → bound_of i < 65536 → Words is → Words (i ∷ is)
words_more i is h g zero = h
words_more i is h g (suc a) = g a

-- a block has none
words_block : (is : List Info) → Words is → Words (Fixed 0 ∷ is)
unfolding bound_of
words_block is g = words_more (Fixed 0) is (omega arith) g

pub class_fits : (k : ℕ) → k < 65536 → (x : Expr) → Sound x → (is : List Info) → Words is → ClassFits (deep x) (expr_class k is x)
unfolding Sound deep expr_class Fits scopes
class_fits k l (expr.Expr.const t v) h is g = l
class_fits k l (expr.Expr.col a b c i) h is g = by_fits 0 i (tree_cell_class a b c) h tt (omega arith)
class_fits k l (expr.Expr.classof a b c i) h is g = by_fits 0 i (tree_row_class a b) h tt (omega arith)
class_fits k l (expr.Expr.local a) h is g = by_fits 0 (get_or is a (Fixed 0)) (tree_local_class a) (g a) tt (omega arith)
class_fits k l (expr.Expr.bin op p x y) (h, f, m) is g =
    join_fits (max (deep x) (deep y)) (expr_class k is x) (expr_class k is y)
    (fits_more (deep x) (max (deep x) (deep y)) (expr_class k is x) (omega arith) (class_fits k l x h is g))
    (fits_more (deep y) (max (deep x) (deep y)) (expr_class k is y) (omega arith) (class_fits k l y f is g))
class_fits k l (expr.Expr.neg x) h is g = class_fits k l x h is g
class_fits k l (expr.Expr.conv p s x) (h, m, n) is g = class_fits k l x h is g
class_fits k l (expr.Expr.if c x y) (e, h, f) is g =
    let d = max (deep c) (max (deep x) (deep y)) in
    join_fits d (expr_class k is c) (choice (expr_data c) (expr_class k is x) (expr_class k is y))
    (fits_more (deep c) d (expr_class k is c) (omega arith) (class_fits k l c e is g))
    (choice_fits d (expr_data c) (expr_class k is x) (expr_class k is y) (data_fits c e) (omega (arith, data_scopes c))
    (fits_more (deep x) d (expr_class k is x) (omega arith) (class_fits k l x h is g))
    (fits_more (deep y) d (expr_class k is y) (omega arith) (class_fits k l y f is g)))
class_fits k l (expr.Expr.letin x y) (h, f) is g =
    let i = class_fits k l x h is g in
    let_fits (deep x) (deep y) (expr_data x) (expr_class k is x) (expr_class k (info_of (expr_class k is x) ∷ is) y) (data_fits x h) (data_scopes x) i
    (class_fits k l y f (info_of (expr_class k is x) ∷ is) (words_more (info_of (expr_class k is x)) is (info_fits (deep x) (expr_class k is x) i) g))
class_fits k l (expr.Expr.exists q ts w) (t, h, f) is g =
    block_fits (deep w) ts (expr_class k (Fixed 0 ∷ is) w ∷ []) t (class_fits k l w h (Fixed 0 ∷ is) (words_block is g), tt)
class_fits k l (expr.Expr.single q ts w v) (t, h, f) is g =
    let d = max (deep w) (deep v) in
    block_fits d ts (expr_class k (Fixed 0 ∷ is) w ∷ choice (expr_data w) (expr_class k (Fixed 0 ∷ is) v) (fixed 0) ∷ []) t (
      fits_more (deep w) d (expr_class k (Fixed 0 ∷ is) w) (omega arith) (class_fits k l w h (Fixed 0 ∷ is) (words_block is g)),
      (
        choice_fits d (expr_data w) (expr_class k (Fixed 0 ∷ is) v) (fixed 0) (data_fits w h) (omega (arith, data_scopes w))
            (fits_more (deep v) d (expr_class k (Fixed 0 ∷ is) v) (omega arith) (class_fits k l v f (Fixed 0 ∷ is) (words_block is g)))
            (omega arith),
        tt,
      ),
    )
