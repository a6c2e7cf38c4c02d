-- The bytes of a class from its parts, by what is known of them: fixed, join, choice, LET, block.
-- Assumes nothing.
use Prim.Native.Nat.{ℕ}
use mathlib.Core.Path.{◌≡◌, refl, sym, ap, ◌∙◌}
use mathlib.Core.Bool.{Bool, true, false, cond}
use mathlib.Core.List.{List, ◌++◌, append_assoc}
use native.Mathlib.Omega.{arith}
use lib.ListN.{length}
use Rattle.word.specs.Record.{rec_bytes}
use Rattle.class.specs.Class.{lub_of}
use Rattle.class.specs.declared.Info.{Info}
use Rattle.class.specs.declared.Info.TheVariants.{Fixed, Bound}
use Rattle.catalogue.specs.Tables.{TabRef}
use Rattle.cell.specs.Values.{number_in}
use Rattle.view.specs.Record.{const_rec}
use Rattle.resolve.specs.Infos.{table_class}
use Rattle.tree.specs.Tree.{Tree, tree_if, tree_lub, tree_class, encode, table_recs}
use Rattle.tree.specs.Trans.{Class, fixed, tree, as_tree, bound, info_of, by_info, nums, join, join_all, same_fixed, choice, let_class, row_classes, block_class}

-- a Bound is no Fixed
bound_fixed : {A : Type 0} {a b : ℕ} → Bound b ≡ Fixed a → A
bound_fixed e = absurd (let z : ◌≡◌ {A = ℕ} 0 1 = cc in omega arith)

fixed_bound : {A : Type 0} {a b : ℕ} → Fixed a ≡ Bound b → A
fixed_bound e = absurd (let z : ◌≡◌ {A = ℕ} 0 1 = cc in omega arith)

pub class_bytes : (k : ℕ) → encode (tree_class k) ≡ rec_bytes 6 0 k 0 0
unfolding encode const_rec number_in
class_bytes k = refl

-- a fixed class is one CLASS record
pub fixed_bytes : (i : Class) (k : ℕ) → info_of i ≡ Fixed k → encode (as_tree i) ≡ rec_bytes 6 0 k 0 0
unfolding info_of as_tree
fixed_bytes (fixed a) k e = class_bytes a ∙ ap (λ (x : ℕ). rec_bytes 6 0 x 0 0) (let h : a ≡ k = cc in h)
fixed_bytes (tree t b) k e = bound_fixed e

-- a class that is known only by a tree is that tree
pub by_bytes : (i : Info) (t : Tree) (b : ℕ) → info_of (by_info i t) ≡ Bound b → encode (as_tree (by_info i t)) ≡ encode t
unfolding info_of as_tree by_info
by_bytes (Fixed k) t b e = fixed_bound e
by_bytes (Bound a) t b e = refl

lub_bytes : (x y : Tree) → encode (tree_lub x y) ≡ rec_bytes 25 0 0 0 0 ++ (encode x ++ encode y)
unfolding encode
lub_bytes x y = refl

-- a join that is a tree: its first part first, or last where that is fixed
pub join_turned : (i j : Class) (a b : ℕ) → info_of i ≡ Fixed a → info_of (join i j) ≡ Bound b
    → encode (as_tree (join i j)) ≡ rec_bytes 25 0 0 0 0 ++ (encode (as_tree j) ++ encode (as_tree i))
unfolding info_of as_tree join
join_turned (fixed x) (fixed y) a b e g = fixed_bound g
join_turned (fixed x) (tree u y) a b e g = lub_bytes u (tree_class x)
join_turned (tree t x) j a b e g = bound_fixed e

pub join_open : (i j : Class) (a : ℕ) → info_of i ≡ Bound a → encode (as_tree (join i j)) ≡ rec_bytes 25 0 0 0 0 ++ (encode (as_tree i) ++ encode (as_tree j))
unfolding info_of as_tree join
join_open (fixed x) j a e = fixed_bound e
join_open (tree t x) (fixed y) a e = lub_bytes t (tree_class y)
join_open (tree t x) (tree u y) a e = lub_bytes t u

-- a choice that is a tree
pub choice_open : (d : Tree) (i j : Class) (b : ℕ) → info_of (choice d i j) ≡ Bound b
    → encode (as_tree (choice d i j)) ≡ rec_bytes 9 0 0 0 0 ++ (encode d ++ (encode (as_tree i) ++ encode (as_tree j)))
unfolding choice
choice_open d i j b = go (same_fixed i j) refl
  where
    alike : (i j : Class) → same_fixed i j ≡ true → info_of i ≡ Bound b → encode (tree_if d (as_tree i) (as_tree j)) ≡ encode (as_tree i)
    alike (fixed x) j e g = unfold info_of in fixed_bound g
    alike (tree t x) (fixed y) e g = unfold same_fixed in absurd (let z : ◌≡◌ {A = ℕ} 0 1 = cc in omega arith)
    alike (tree t x) (tree u y) e g = unfold same_fixed in absurd (let z : ◌≡◌ {A = ℕ} 0 1 = cc in omega arith)

    go : (z : Bool) → same_fixed i j ≡ z → info_of (cond z i (tree (tree_if d (as_tree i) (as_tree j)) (lub_of (bound i) (bound j)))) ≡ Bound b
        → encode (as_tree (cond z i (tree (tree_if d (as_tree i) (as_tree j)) (lub_of (bound i) (bound j))))) ≡ rec_bytes 9 0 0 0 0 ++ (encode d ++ (encode (as_tree i) ++ encode (as_tree j)))
    go true e g = sym (alike i j e g) ∙ (unfold encode in refl)
    go false e g = unfold encode as_tree in refl

-- LET whose body's class is a tree
pub let_fixed : (d : Tree) (i j : Class) (a b : ℕ) → info_of i ≡ Fixed a → info_of j ≡ Bound b
    → encode (as_tree (let_class d i j)) ≡ rec_bytes 23 0 0 0 0 ++ (encode d ++ encode (as_tree j))
unfolding info_of as_tree let_class encode
let_fixed d i (fixed y) a b e g = fixed_bound g
let_fixed d (fixed x) (tree u y) a b e g = refl
let_fixed d (tree t x) (tree u y) a b e g = bound_fixed e

pub let_open : (d : Tree) (i j : Class) (a b : ℕ) → info_of i ≡ Bound a → info_of j ≡ Bound b
    → encode (as_tree (let_class d i j)) ≡ rec_bytes 24 0 0 0 0 ++ (encode (as_tree i) ++ (encode d ++ encode (as_tree j)))
unfolding info_of as_tree let_class encode
let_open d i (fixed y) a b e g = fixed_bound g
let_open d (fixed x) (tree u y) a b e g = fixed_bound e
let_open d (tree t x) (tree u y) a b e g = refl

-- a block: LUB of AGG, with its tables and what is read at a row, and the tables' class
pub block_bytes : (ts : List TabRef) (us : List Class)
    → encode (as_tree (block_class ts us))
    ≡ rec_bytes 25 0 0 0 0 ++ (rec_bytes 27 0 (length (nums ts)) 0 0 ++ (table_recs (nums ts) ++ (encode (as_tree (join_all (row_classes 0 ts ++ us))) ++ rec_bytes 6 0 (table_class ts) 0 0)))
unfolding as_tree block_class join encode
block_bytes ts us =
    ap (λ (l : List ℕ). rec_bytes 25 0 0 0 0 ++ l)
    (append_assoc (rec_bytes 27 0 (length (nums ts)) 0 0) (table_recs (nums ts) ++ encode (as_tree (join_all (row_classes 0 ts ++ us)))) _
    ∙ ap (λ (l : List ℕ). rec_bytes 27 0 (length (nums ts)) 0 0 ++ l)
    (append_assoc (table_recs (nums ts)) (encode (as_tree (join_all (row_classes 0 ts ++ us)))) _
    ∙ ap (λ (l : List ℕ). table_recs (nums ts) ++ (encode (as_tree (join_all (row_classes 0 ts ++ us))) ++ l)) (class_bytes (table_class ts))))
