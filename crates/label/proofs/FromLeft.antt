-- The row classes of a block from the left: what the definition joins is what is joined table after table; their bytes and what is known of them.
-- Assumes nothing.
use Prim.Native.Nat.{ℕ, zero, suc, ◌+◌, ◌-◌, ◌≤◌}
use mathlib.Core.Path.{◌≡◌, refl, sym, ap, ap₂, ◌∙◌}
use mathlib.Core.List.{List, [], ◌∷◌, ◌++◌, map}
use native.Mathlib.Omega.{arith}
use lib.ListN.{length, get_or, drop}
use lib.Seq.{get_or-drop, drop-drop}
use Rattle.word.specs.Record.{rec_bytes}
use Rattle.class.specs.Info.{join_i}
use Rattle.class.specs.declared.Info.{Info}
use Rattle.class.specs.declared.Info.TheVariants.{Fixed, Bound}
use Rattle.catalogue.specs.Tables.{TabRef}
use Rattle.tree.specs.Tree.{tree_row_class, encode}
use Rattle.tree.specs.Trans.{Class, as_tree, info_of, by_info, join, joins, join_all, row_classes}
use Rattle.tree.proofs.Infos.{by_info_lem, join_info}
use Rattle.label.specs.Rows.{row_item, rows_to}
use Rattle.label.proofs.Joins.{fixed_bytes, by_bytes, join_turned, join_open}

drop_head : (is : List Info) (n : ℕ) (x : Info) (xs : List Info) → drop n is ≡ x ∷ xs → get_or is n (Fixed 0) ≡ x
drop_head is n x xs e =
    let z : n ≡ n + 0 = omega arith in
    ap (λ (k : ℕ). get_or is k (Fixed 0)) z ∙ sym (get_or-drop n is 0 (Fixed 0)) ∙ ap (λ (l : List Info). get_or l 0 (Fixed 0)) e

drop_tail : (is : List Info) (n : ℕ) (x : Info) (xs : List Info) → drop n is ≡ x ∷ xs → drop (suc n) is ≡ xs
drop_tail is n x xs e =
    let z : suc n ≡ n + 1 = omega arith in
    ap (λ (k : ℕ). drop k is) z ∙ sym (drop-drop 1 n is) ∙ ap (λ (l : List Info). drop 1 l) e

item_is : (is : List Info) (j : ℕ) (i : Info) → get_or is j (Fixed 0) ≡ i → by_info i (tree_row_class 0 j) ≡ row_item is j
unfolding row_item
item_is is j i e = ap (λ (x : Info). by_info x (tree_row_class 0 j)) (sym e)

next_row : (is : List Info) (j : ℕ) → join (rows_to is j) (row_item is (suc j)) ≡ rows_to is (suc j)
unfolding rows_to
next_row is j = refl

first_row : (is : List Info) → row_item is 0 ≡ rows_to is 0
unfolding rows_to
first_row is = refl

rows_left : (is : List Info) (j : ℕ) (ts : List TabRef) → drop (suc j) is ≡ map (λ t. t.table.row) ts
    → joins (rows_to is j) (row_classes (suc j) ts) ≡ rows_to is (j + length ts)
unfolding joins row_classes
rows_left is j [] e = ap (rows_to is) (let z : j ≡ j + 0 = omega arith in z)
rows_left is j (t ∷ ts) e =
    let z : suc j + length ts ≡ j + suc (length ts) = omega arith in
    ap (λ (i : Class). joins i (row_classes (suc (suc j)) ts))
    (ap (join (rows_to is j)) (item_is is (suc j) t.table.row (drop_head is (suc j) _ _ e)) ∙ next_row is j)
    ∙ rows_left is (suc j) ts (drop_tail is (suc j) _ _ e)
    ∙ ap (rows_to is) z

joins_one : (i : Class) (xs : List Class) (y : Class) → joins i (xs ++ (y ∷ [])) ≡ join (joins i xs) y
unfolding joins
joins_one i [] y = refl
joins_one i (x ∷ xs) y = joins_one (join i x) xs y

joins_two : (i : Class) (xs : List Class) (y z : Class) → joins i (xs ++ (y ∷ z ∷ [])) ≡ join (join (joins i xs) y) z
unfolding joins
joins_two i [] y z = refl
joins_two i (x ∷ xs) y z = joins_two (join i x) xs y z

all_joins : (t : TabRef) (ts : List TabRef) (us : List Class) → join_all (row_classes 0 (t ∷ ts) ++ us) ≡ joins (by_info t.table.row (tree_row_class 0 0)) (row_classes 1 ts ++ us)
unfolding join_all row_classes
all_joins t ts us = refl

-- the rows of all tables of a block, then the where; and then the choice of the value
module _ (is : List Info) (ts : List TabRef) (e : is ≡ map (λ t. t.table.row) ts) (n : ℕ) (h : n ≡ length ts) (l : 1 ≤ n) where
  pub rows_where : (w : Class) → join_all (row_classes 0 ts ++ (w ∷ [])) ≡ join (rows_to is (n - 1)) w
  rows_where w = go ts e h
    where
      go : (ts : List TabRef) → is ≡ map (λ t. t.table.row) ts → n ≡ length ts → join_all (row_classes 0 ts ++ (w ∷ [])) ≡ join (rows_to is (n - 1)) w
      go [] e h = absurd (omega arith)
      go (t ∷ ts) e h =
          let z : 0 + length ts ≡ n - 1 = omega arith in
          all_joins t ts (w ∷ [])
          ∙ joins_one (by_info t.table.row (tree_row_class 0 0)) (row_classes 1 ts) w
          ∙ ap (λ (i : Class). join (joins i (row_classes 1 ts)) w) (item_is is 0 t.table.row (drop_head is 0 _ _ e) ∙ first_row is)
          ∙ ap (λ (i : Class). join i w) (rows_left is 0 ts (drop_tail is 0 _ _ e) ∙ ap (rows_to is) z)

  pub rows_value : (w x : Class) → join_all (row_classes 0 ts ++ (w ∷ x ∷ [])) ≡ join (join (rows_to is (n - 1)) w) x
  rows_value w x = go ts e h
    where
      go : (ts : List TabRef) → is ≡ map (λ t. t.table.row) ts → n ≡ length ts → join_all (row_classes 0 ts ++ (w ∷ x ∷ [])) ≡ join (join (rows_to is (n - 1)) w) x
      go [] e h = absurd (omega arith)
      go (t ∷ ts) e h =
          let z : 0 + length ts ≡ n - 1 = omega arith in
          all_joins t ts (w ∷ x ∷ [])
          ∙ joins_two (by_info t.table.row (tree_row_class 0 0)) (row_classes 1 ts) w x
          ∙ ap (λ (i : Class). join (join (joins i (row_classes 1 ts)) w) x) (item_is is 0 t.table.row (drop_head is 0 _ _ e) ∙ first_row is)
          ∙ ap (λ (i : Class). join (join i w) x) (rows_left is 0 ts (drop_tail is 0 _ _ e) ∙ ap (rows_to is) z)

-- ---- what is known of them

pub row_info_lem : (is : List Info) (j : ℕ) → get_or is j (Fixed 0) ≡ info_of (row_item is j)
unfolding row_item
row_info_lem is j = sym (by_info_lem (get_or is j (Fixed 0)) (tree_row_class 0 j))

pub rows_first : (is : List Info) (j : ℕ) (r : Info) → j ≡ 0 → r ≡ get_or is 0 (Fixed 0) → r ≡ info_of (rows_to is j)
rows_first is j r e g = g ∙ row_info_lem is 0 ∙ ap info_of (first_row is) ∙ ap (λ (k : ℕ). info_of (rows_to is k)) (sym e)

rows_suc : (is : List Info) (j : ℕ) → (j ≡ 0 → ⊥) → rows_to is j ≡ join (rows_to is (j - 1)) (row_item is j)
rows_suc is zero e = absurd (e refl)
rows_suc is (suc j) e = let z : suc j - 1 ≡ j = omega arith in sym (next_row is j) ∙ ap (λ (k : ℕ). join (rows_to is k) (row_item is (suc j))) (sym z)

pub rows_next : (is : List Info) (j : ℕ) (x y r : Info) → (j ≡ 0 → ⊥) → x ≡ info_of (rows_to is (j - 1)) → y ≡ get_or is j (Fixed 0) → r ≡ join_i x y → r ≡ info_of (rows_to is j)
rows_next is j x y r e a b g =
    g ∙ ap₂ join_i a (b ∙ row_info_lem is j) ∙ sym (join_info (rows_to is (j - 1)) (row_item is j)) ∙ ap info_of (sym (rows_suc is j e))

-- ---- their bytes

pub row_fixed : (is : List Info) (j : ℕ) (x : Info) (k : ℕ) → x ≡ get_or is j (Fixed 0) → x ≡ Fixed k → encode (as_tree (row_item is j)) ≡ rec_bytes 6 0 k 0 0
row_fixed is j x k e g = fixed_bytes (row_item is j) k (sym (row_info_lem is j) ∙ sym e ∙ g)

pub row_open : (is : List Info) (j : ℕ) (x : Info) (b : ℕ) → x ≡ get_or is j (Fixed 0) → x ≡ Bound b → encode (as_tree (row_item is j)) ≡ rec_bytes 19 0 0 j 0
unfolding row_item encode
row_open is j x b e g = by_bytes (get_or is j (Fixed 0)) (tree_row_class 0 j) b (by_info_lem (get_or is j (Fixed 0)) (tree_row_class 0 j) ∙ sym e ∙ g)

pub rows_fixed : (is : List Info) (j : ℕ) (x : Info) (k : ℕ) → x ≡ info_of (rows_to is j) → x ≡ Fixed k → encode (as_tree (rows_to is j)) ≡ rec_bytes 6 0 k 0 0
rows_fixed is j x k e g = fixed_bytes (rows_to is j) k (sym e ∙ g)

pub rows_one : (is : List Info) (j : ℕ) → j ≡ 0 → encode (as_tree (rows_to is j)) ≡ encode (as_tree (row_item is 0))
rows_one is j e = ap (λ (k : ℕ). encode (as_tree (rows_to is k))) e ∙ ap (λ (i : Class). encode (as_tree i)) (sym (first_row is))

pub rows_turned : (is : List Info) (j : ℕ) (x y : Info) (a b : ℕ) → (j ≡ 0 → ⊥) → x ≡ info_of (rows_to is j) → x ≡ Bound b → y ≡ info_of (rows_to is (j - 1)) → y ≡ Fixed a
    → encode (as_tree (rows_to is j)) ≡ rec_bytes 25 0 0 0 0 ++ (encode (as_tree (row_item is j)) ++ rec_bytes 6 0 a 0 0)
rows_turned is j x y a b n e g h k =
    ap (λ (i : Class). encode (as_tree i)) (rows_suc is j n)
    ∙ join_turned (rows_to is (j - 1)) (row_item is j) a b (sym h ∙ k) (ap info_of (sym (rows_suc is j n)) ∙ sym e ∙ g)
    ∙ ap (λ (l : List ℕ). rec_bytes 25 0 0 0 0 ++ (encode (as_tree (row_item is j)) ++ l)) (fixed_bytes (rows_to is (j - 1)) a (sym h ∙ k))

pub rows_open : (is : List Info) (j : ℕ) (y : Info) (a : ℕ) → (j ≡ 0 → ⊥) → y ≡ info_of (rows_to is (j - 1)) → y ≡ Bound a
    → encode (as_tree (rows_to is j)) ≡ rec_bytes 25 0 0 0 0 ++ (encode (as_tree (rows_to is (j - 1))) ++ encode (as_tree (row_item is j)))
rows_open is j y a n h k = ap (λ (i : Class). encode (as_tree i)) (rows_suc is j n) ∙ join_open (rows_to is (j - 1)) (row_item is j) a (sym h ∙ k)
