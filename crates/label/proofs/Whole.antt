-- SELECT: what an accepted view tells its writer, and the bytes of its tree from those of its parts.
-- Assumes nothing.
use Prim.Native.Nat.{ℕ, zero, suc, ◌+◌, ◌-◌, ◌<◌, ◌≤◌}
use mathlib.Core.Path.{◌≡◌, refl, sym, ap, ap₂, subst, ◌∙◌}
use mathlib.Core.Bool.{Bool, true, false, cond}
use mathlib.Core.List.{List, [], ◌∷◌, ◌++◌, map, append_assoc}
use native.Mathlib.Omega.{arith}
use lib.ListN.{length, get_or, drop}
use lib.Seq.{get_or-drop, drop-drop}
use Rattle.word.specs.Record.{rec_bytes}
use Rattle.class.specs.Class.{dominatesb}
use Rattle.class.specs.Info.{bound_of}
use Rattle.class.specs.declared.Info.{Info}
use Rattle.class.specs.declared.Info.TheVariants.{Fixed}
use Rattle.catalogue.specs.Tables.{TabRef}
use Rattle.scope.specs.declared.Scope.{Scope}
use Rattle.resolve.specs.declared.Files.{Files}
use Rattle.tree.specs.Tree.{Tree, tree_dom, tree_row_class, tree_class, encode}
use Rattle.tree.specs.Trans.{Class, fixed, as_tree, bound, info_of, by_info}
use Rattle.tree.specs.Select.{test, table_tests, conj}
use Rattle.tree.specs.Claims.{data_at, next_at, Accepted}
use Rattle.tree.proofs.Infos.{bound_info}
use Rattle.label.specs.Claims.{class_at}
use Rattle.label.specs.Rows.{row_item}
use Rattle.label.specs.Whole.{Accepts, pair_bytes, flat, test_bytes, dom_bytes, flat_size, test_size}
use Rattle.label.proofs.Joins.{class_bytes}
use Rattle.label.proofs.FromLeft.{row_info_lem}

-- ---- tests

pub flat_both : (xs ys : List Tree) → flat_size (xs ++ ys) ≡ flat_size xs + flat_size ys
unfolding flat_size
flat_both [] ys = omega arith
flat_both (x ∷ xs) ys = omega (arith, flat_both xs ys)

append_none : (xs : List ℕ) → xs ++ [] ≡ xs
append_none [] = refl
append_none (x ∷ xs) = ap (λ (l : List ℕ). x ∷ l) (append_none xs)

pub flat_append : (xs ys : List Tree) → flat (xs ++ ys) ≡ flat xs ++ flat ys
unfolding flat
flat_append [] ys = refl
flat_append (x ∷ xs) ys =
    ap (λ (l : List ℕ). rec_bytes 7 5 0 0 0 ++ (encode x ++ l)) (flat_append xs ys)
    ∙ ap (λ (l : List ℕ). rec_bytes 7 5 0 0 0 ++ l) (sym (append_assoc (encode x) (flat xs) (flat ys)))
    ∙ sym (append_assoc (rec_bytes 7 5 0 0 0) (encode x ++ flat xs) (flat ys))

pub conj_bytes : (ts : List Tree) (d : Tree) → encode (conj ts d) ≡ flat ts ++ encode d
unfolding conj flat encode
conj_bytes [] d = refl
conj_bytes (t ∷ ts) d =
    ap (λ (l : List ℕ). rec_bytes 7 5 0 0 0 ++ (encode t ++ l)) (conj_bytes ts d)
    ∙ ap (λ (l : List ℕ). rec_bytes 7 5 0 0 0 ++ l) (sym (append_assoc (encode t) (flat ts) (encode d)))
    ∙ sym (append_assoc (rec_bytes 7 5 0 0 0) (encode t ++ flat ts) (encode d))

pub dom_is : (q : ℕ) → dom_bytes q ≡ rec_bytes 7 5 0 0 0 ++ (rec_bytes 26 0 0 0 0 ++ rec_bytes 6 0 q 0 0)
unfolding dom_bytes
dom_is q = refl

one_test : (q : ℕ) (x : Tree) → flat (tree_dom (tree_class q) x ∷ []) ≡ dom_bytes q ++ encode x
unfolding flat encode dom_bytes
one_test q x =
    ap (λ (l : List ℕ). rec_bytes 7 5 0 0 0 ++ l) (append_none _ ∙ ap (λ (l : List ℕ). rec_bytes 26 0 0 0 0 ++ (l ++ encode x)) (class_bytes q) ∙ sym (append_assoc (rec_bytes 26 0 0 0 0) (rec_bytes 6 0 q 0 0) (encode x)))
    ∙ sym (append_assoc (rec_bytes 7 5 0 0 0) (rec_bytes 26 0 0 0 0 ++ rec_bytes 6 0 q 0 0) (encode x))

pub test_out : (q : ℕ) (i : Class) → dominatesb q (bound i) ≡ true → flat (test q i) ≡ []
unfolding test flat
test_out q i e = ap (λ (b : Bool). flat (cond b [] (tree_dom (tree_class q) (as_tree i) ∷ []))) e

pub test_in : (q : ℕ) (i : Class) → dominatesb q (bound i) ≡ false → flat (test q i) ≡ dom_bytes q ++ encode (as_tree i)
unfolding test
test_in q i e = ap (λ (b : Bool). flat (cond b [] (tree_dom (tree_class q) (as_tree i) ∷ []))) e ∙ one_test q (as_tree i)

fixed_bound_is : (k : ℕ) → bound (fixed k) ≡ k
unfolding bound
fixed_bound_is k = refl

fixed_tree_is : (k : ℕ) → encode (as_tree (fixed k)) ≡ rec_bytes 6 0 k 0 0
unfolding as_tree
fixed_tree_is k = class_bytes k

-- by what the code has found: a fixed class, a row's class, the where's class
pub fixed_out : (q k : ℕ) {r : Bool} → r ≡ dominatesb q k → r ≡ true → flat (test q (fixed k)) ≡ []
fixed_out q k e g = test_out q (fixed k) (ap (dominatesb q) (fixed_bound_is k) ∙ sym e ∙ g)

pub fixed_in : (q k : ℕ) {r : Bool} → r ≡ dominatesb q k → r ≡ false → flat (test q (fixed k)) ≡ dom_bytes q ++ rec_bytes 6 0 k 0 0
fixed_in q k e g = test_in q (fixed k) (ap (dominatesb q) (fixed_bound_is k) ∙ sym e ∙ g) ∙ ap (λ (l : List ℕ). dom_bytes q ++ l) (fixed_tree_is k)

module _ (q : ℕ) (i : Class) {x : Info} {b : ℕ} {r : Bool} (p : x ≡ info_of i) (e : b ≡ bound_of x) (d : r ≡ dominatesb q b) where
  bound_is : bound i ≡ b
  bound_is = sym (e ∙ ap bound_of p ∙ bound_info i)

  pub class_out_lem : r ≡ true → flat (test q i) ≡ []
  class_out_lem g = test_out q i (ap (dominatesb q) bound_is ∙ sym d ∙ g)

  pub class_in : r ≡ false → flat (test q i) ≡ dom_bytes q ++ encode (as_tree i)
  class_in g = test_in q i (ap (dominatesb q) bound_is ∙ sym d ∙ g)

pub row_known : (is : List Info) (j : ℕ) {x : Info} → x ≡ get_or is j (Fixed 0) → x ≡ info_of (row_item is j)
row_known is j e = e ∙ row_info_lem is j

-- the tests of a block's tables, one table after the other
pub tests_none : (q : ℕ) (ks : List ℕ) (is : List Info) (j i : ℕ) → i ≡ 0 → test_bytes q ks is j i ≡ []
unfolding test_bytes
tests_none q ks is j i e = ap (test_bytes q ks is j) e

pub tests_some : (q : ℕ) (ks : List ℕ) (is : List Info) (j i k : ℕ) → (i ≡ 0 → ⊥) → k ≡ get_or ks j 0
    → test_bytes q ks is j i ≡ flat (test q (fixed k)) ++ (flat (test q (row_item is j)) ++ test_bytes q ks is (j + 1) (i - 1))
tests_some q ks is j zero k n e = absurd (n refl)
tests_some q ks is j (suc i) k n e =
    let z : suc j ≡ j + 1 = omega arith in
    let y : i ≡ suc i - 1 = omega arith in
    (more i)
    ∙ ap₂ (λ (a b : ℕ). flat (test q (fixed (get_or ks j 0))) ++ (flat (test q (row_item is j)) ++ test_bytes q ks is a b)) z y
    ∙ ap (λ (a : ℕ). flat (test q (fixed a)) ++ (flat (test q (row_item is j)) ++ test_bytes q ks is (j + 1) (suc i - 1))) (sym e)
  where
    more : (i : ℕ) → test_bytes q ks is j (suc i) ≡ flat (test q (fixed (get_or ks j 0))) ++ (flat (test q (row_item is j)) ++ test_bytes q ks is (suc j) i)
    more i = unfold test_bytes in refl

-- the same, table j of so many
pub tests_next : (q : ℕ) (ks : List ℕ) (is : List Info) (j n k : ℕ) → j < n → k ≡ get_or ks j 0
    → test_bytes q ks is j (n - j) ≡ flat (test q (fixed k)) ++ (flat (test q (row_item is j)) ++ test_bytes q ks is (j + 1) (n - (j + 1)))
tests_next q ks is j n k l e =
    let z : n - j - 1 ≡ n - (j + 1) = omega arith in
    tests_some q ks is j (n - j) k (λ h. omega arith) e ∙ ap (λ (i : ℕ). flat (test q (fixed k)) ++ (flat (test q (row_item is j)) ++ test_bytes q ks is (j + 1) i)) z

drop_head : {A : Type 0} (xs : List A) (n : ℕ) (d x : A) (ys : List A) → drop n xs ≡ x ∷ ys → get_or xs n d ≡ x
drop_head {A} xs n d x ys e =
    let z : n ≡ n + 0 = omega arith in
    ap (λ (k : ℕ). get_or xs k d) z ∙ sym (get_or-drop n xs 0 d) ∙ ap (λ (l : List A). get_or l 0 d) e

drop_tail : {A : Type 0} (xs : List A) (n : ℕ) (x : A) (ys : List A) → drop n xs ≡ x ∷ ys → drop (suc n) xs ≡ ys
drop_tail {A} xs n x ys e =
    let z : suc n ≡ n + 1 = omega arith in
    ap (λ (k : ℕ). drop k xs) z ∙ sym (drop-drop 1 n xs) ∙ ap (λ (l : List A). drop 1 l) e

item_is : (is : List Info) (j : ℕ) (i : Info) → get_or is j (Fixed 0) ≡ i → row_item is j ≡ by_info i (tree_row_class 0 j)
unfolding row_item
item_is is j i e = ap (λ (x : Info). by_info x (tree_row_class 0 j)) e

pub tests_are : (q : ℕ) (ks : List ℕ) (is : List Info) (j : ℕ) (ts : List TabRef) → drop j ks ≡ map (λ t. t.table.tclass) ts → drop j is ≡ map (λ t. t.table.row) ts
    → test_bytes q ks is j (length ts) ≡ flat (table_tests q j ts)
unfolding test_bytes table_tests
tests_are q ks is j [] e g = unfold flat in refl
tests_are q ks is j (t ∷ ts) e g =
    ap₂ (λ (k : ℕ) (i : Class). flat (test q (fixed k)) ++ (flat (test q i) ++ test_bytes q ks is (suc j) (length ts)))
    (drop_head ks j 0 _ _ e) (item_is is j _ (drop_head is j (Fixed 0) _ _ g))
    ∙ ap (λ (l : List ℕ). flat (test q (fixed t.table.tclass)) ++ (flat (test q (by_info t.table.row (tree_row_class 0 j))) ++ l)) (tests_are q ks is (suc j) ts (drop_tail ks j _ _ e) (drop_tail is j _ _ g))
    ∙ ap (λ (l : List ℕ). flat (test q (fixed t.table.tclass)) ++ l) (sym (flat_append (test q (by_info t.table.row (tree_row_class 0 j))) (table_tests q (suc j) ts)))
    ∙ sym (flat_append (test q (fixed t.table.tclass)) (test q (by_info t.table.row (tree_row_class 0 j)) ++ table_tests q (suc j) ts))

pub tests_sized : (q : ℕ) (ks : List ℕ) (is : List Info) (j : ℕ) (ts : List TabRef) → drop j ks ≡ map (λ t. t.table.tclass) ts → drop j is ≡ map (λ t. t.table.row) ts
    → test_size q ks is j (length ts) ≡ flat_size (table_tests q j ts)
unfolding test_size table_tests
tests_sized q ks is j [] e g = unfold flat_size in refl
tests_sized q ks is j (t ∷ ts) e g =
    let x = ap₂ (λ (k : ℕ) (i : Class). flat_size (test q (fixed k)) + (flat_size (test q i) + test_size q ks is (suc j) (length ts)))
    (drop_head ks j 0 _ _ e) (item_is is j _ (drop_head is j (Fixed 0) _ _ g)) in
    let y = tests_sized q ks is (suc j) ts (drop_tail ks j _ _ e) (drop_tail is j _ _ g) in
    let a = flat_both (test q (fixed t.table.tclass)) (test q (by_info t.table.row (tree_row_class 0 j)) ++ table_tests q (suc j) ts) in
    let b = flat_both (test q (by_info t.table.row (tree_row_class 0 j))) (table_tests q (suc j) ts) in
    x ∙ omega (arith, y, a, b)

-- ---- values in a row

module _ (c ss v : List ℕ) (f : Files) (t : List Scope) where
  pub accepts_some : (i m : ℕ) → 0 < i → Accepts c ss v f t i m → Accepted c ss v f t 1 15 m × Accepts c ss v f t (i - 1) (next_at v f 15 m)
  unfolding Accepts
  accepts_some zero m l a = absurd (omega arith)
  accepts_some (suc i) m l a = let z : suc i - 1 ≡ i = omega arith in (a.0, rw z a.1)

  -- m' is the record after the first
  pub accepts_next : (i m m' : ℕ) → 0 < i → Accepts c ss v f t i m → m' ≡ next_at v f 15 m → Accepts c ss v f t (i - 1) m'
  accepts_next i m m' l a e = subst (λ (n : ℕ). Accepts c ss v f t (i - 1) n) (sym e) (accepts_some i m l a).1

module _ (c v : List ℕ) (f : Files) (t : List Scope) where
  pub pairs_some : (i m : ℕ) → 0 < i → pair_bytes c v f t i m
      ≡ encode (data_at c v f t 1 15 m) ++ (encode (as_tree (class_at c v f t 1 15 m)) ++ pair_bytes c v f t (i - 1) (next_at v f 15 m))
  unfolding pair_bytes
  pairs_some zero m l = absurd (omega arith)
  pairs_some (suc i) m l = let z : suc i - 1 ≡ i = omega arith in rw z

  pub pairs_next : (i m m' : ℕ) → 0 < i → m' ≡ next_at v f 15 m → pair_bytes c v f t i m
      ≡ encode (data_at c v f t 1 15 m) ++ (encode (as_tree (class_at c v f t 1 15 m)) ++ pair_bytes c v f t (i - 1) m')
  pairs_next i m m' l e =
      pairs_some i m l ∙ ap (λ (n : ℕ). encode (data_at c v f t 1 15 m) ++ (encode (as_tree (class_at c v f t 1 15 m)) ++ pair_bytes c v f t (i - 1) n)) (sym e)

  pub pairs_none : (i m : ℕ) → i ≤ 0 → pair_bytes c v f t i m ≡ []
  unfolding pair_bytes
  pairs_none zero m l = refl
  pairs_none (suc i) m l = absurd (omega arith)
