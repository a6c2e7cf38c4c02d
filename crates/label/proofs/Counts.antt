-- How many records the tree of a view takes, from how many its parts take; sizes stop just above 8,190.
-- Assumes nothing.
use Prim.Native.Nat.{ℕ, zero, suc, ◌+◌, ◌-◌}
use mathlib.Core.Path.{◌≡◌, refl, sym, ap, ap₂, ◌∙◌}
use mathlib.Core.Bool.{Bool, true, false, cond}
use mathlib.Core.List.{List, [], ◌∷◌}
use native.Mathlib.Omega.{arith}
use lib.ListN.{get_or}
use Rattle.class.specs.Class.{dominatesb}
use Rattle.class.specs.Info.{bound_of}
use Rattle.class.specs.declared.Info.{Info}
use Rattle.class.specs.declared.Info.TheVariants.{Fixed, Bound}
use Rattle.resolve.specs.Sizes.{capped}
use Rattle.tree.specs.Tree.{Tree, tree_dom, tree_row_class, tree_class, size}
use Rattle.tree.specs.Trans.{Class, fixed, as_tree, bound, by_info}
use Rattle.tree.specs.Select.{test, conj}
use Rattle.tree.proofs.Infos.{bound_info}
use Rattle.label.specs.Rows.{row_item}
use Rattle.label.specs.Whole.{flat_size, test_size}
use Rattle.label.proofs.FromLeft.{row_info_lem}

-- ---- sums that stop

cap_in : (a b x : ℕ) → x ≡ capped a → capped (x + b) ≡ capped (a + b)
cap_in a b x e = omega (arith, e)

turned : (a b : ℕ) → capped (a + b) ≡ capped (b + a)
turned a b = let e : a + b ≡ b + a = omega arith in ap capped e

pub cap_two : (i k m n : ℕ) {r : ℕ} → r ≡ capped (i + k) → i ≡ capped m → k ≡ capped n → r ≡ capped (m + n)
cap_two i k m n e g h = e ∙ cap_in m k i g ∙ turned m k ∙ cap_in n m k h ∙ turned n m

cap_right : (m a n : ℕ) {r : ℕ} → r ≡ capped (m + a) → a ≡ capped n → r ≡ capped (m + n)
cap_right m a n e g = e ∙ turned m a ∙ cap_in n m a g ∙ turned n m

-- the six parts of a tree
pub cap_all : (t a b x d i j k A B X D : ℕ) {r : ℕ} → a ≡ capped A → b ≡ capped B → x ≡ capped X → d ≡ capped D
    → i ≡ capped (1 + t + a) → j ≡ capped (b + x) → k ≡ capped (j + d) → r ≡ capped (i + k) → r ≡ capped (1 + (t + (A + (B + (X + D)))))
cap_all t a b x d i j k A B X D {r} ea eb ex ed ei ej ek er =
    let w : 1 + t + A + (B + X + D) ≡ 1 + (t + (A + (B + (X + D)))) = omega arith in
    cap_two i k (1 + t + A) (B + X + D) er (cap_right (1 + t) a A ei ea) (cap_two j d (B + X) D ek (cap_two b x B X ej eb ex) ed) ∙ ap capped w

-- ---- a test

pub test_none : (q b n : ℕ) {d : Bool} → d ≡ dominatesb q b → d ≡ true → 0 ≡ cond (dominatesb q b) 0 n
test_none q b n e g = sym (ap (λ (z : Bool). cond z 0 n) (sym e ∙ g))

pub test_some : (q b n : ℕ) {r : ℕ} {d : Bool} → d ≡ dominatesb q b → d ≡ false → r ≡ n → r ≡ cond (dominatesb q b) 0 n
test_some q b n e g h = h ∙ sym (ap (λ (z : Bool). cond z 0 n) (sym e ∙ g))

test_records : (q : ℕ) (i : Class) → flat_size (test q i) ≡ cond (dominatesb q (bound i)) 0 (3 + size (as_tree i))
unfolding test
test_records q i = go (dominatesb q (bound i))
  where
    one : flat_size (tree_dom (tree_class q) (as_tree i) ∷ []) ≡ 3 + size (as_tree i)
    one = unfold flat_size size in omega arith

    none : flat_size [] ≡ 0
    none = unfold flat_size in refl

    go : (b : Bool) → flat_size (cond b [] (tree_dom (tree_class q) (as_tree i) ∷ [])) ≡ cond b 0 (3 + size (as_tree i))
    go true = none
    go false = one

capped_cond : (b : Bool) (n : ℕ) → cond b 0 (capped n) ≡ capped (cond b 0 n)
capped_cond true n = omega arith
capped_cond false n = refl

-- by what the code has found
pub test_counted : (q : ℕ) (i : Class) {b n r : ℕ} → b ≡ bound i → n ≡ capped (size (as_tree i)) → r ≡ cond (dominatesb q b) 0 (capped (3 + n)) → r ≡ capped (flat_size (test q i))
test_counted q i {b} {n} {r} e g h =
    let z : capped (3 + n) ≡ capped (3 + size (as_tree i)) = omega (arith, g) in
    h ∙ ap₂ (λ (k m : ℕ). cond (dominatesb q k) 0 m) e z ∙ capped_cond (dominatesb q (bound i)) (3 + size (as_tree i)) ∙ ap capped (sym (test_records q i))

bound_fixed : (k : ℕ) → k ≡ bound (fixed k)
unfolding bound
bound_fixed k = refl

size_fixed : (k : ℕ) → 1 ≡ capped (size (as_tree (fixed k)))
unfolding as_tree size
size_fixed k = refl

size_row : (is : List Info) (j : ℕ) → 1 ≡ capped (size (as_tree (row_item is j)))
unfolding row_item
size_row is j = go (get_or is j (Fixed 0))
  where
    go : (i : Info) → 1 ≡ capped (size (as_tree (by_info i (tree_row_class 0 j))))
    go (Fixed k) = unfold by_info as_tree size in refl
    go (Bound b) = unfold by_info as_tree size in refl

pub fixed_counted : (q k : ℕ) {r : ℕ} → r ≡ cond (dominatesb q k) 0 (capped (3 + 1)) → r ≡ capped (flat_size (test q (fixed k)))
fixed_counted q k e = test_counted q (fixed k) (bound_fixed k) (size_fixed k) e

pub row_counted : (q : ℕ) (is : List Info) (j : ℕ) {x : Info} {b r : ℕ} → x ≡ get_or is j (Fixed 0) → b ≡ bound_of x → r ≡ cond (dominatesb q b) 0 (capped (3 + 1)) → r ≡ capped (flat_size (test q (row_item is j)))
row_counted q is j p e g = test_counted q (row_item is j) (e ∙ ap bound_of (p ∙ row_info_lem is j) ∙ bound_info (row_item is j)) (size_row is j) g

pub tests_zero : (q : ℕ) (ks : List ℕ) (is : List Info) (j i : ℕ) → i ≡ 0 → 0 ≡ capped (test_size q ks is j i)
unfolding test_size
tests_zero q ks is j i e = ap (λ (n : ℕ). capped (test_size q ks is j n)) (sym e)

tests_suc : (q : ℕ) (ks : List ℕ) (is : List Info) (j i : ℕ) → (i ≡ 0 → ⊥)
    → test_size q ks is j i ≡ flat_size (test q (fixed (get_or ks j 0))) + (flat_size (test q (row_item is j)) + test_size q ks is (j + 1) (i - 1))
unfolding test_size
tests_suc q ks is j zero n = absurd (n refl)
tests_suc q ks is j (suc i) n =
    let z : suc j ≡ j + 1 = omega arith in
    let y : i ≡ suc i - 1 = omega arith in
    ap₂ (λ (a b : ℕ). flat_size (test q (fixed (get_or ks j 0))) + (flat_size (test q (row_item is j)) + test_size q ks is a b)) z y

pub tests_counted : (q : ℕ) (ks : List ℕ) (is : List Info) (j i : ℕ) (k : ℕ) (x : Info) (b a c d e r : ℕ) → (i ≡ 0 → ⊥) → k ≡ get_or ks j 0 → x ≡ get_or is j (Fixed 0) → b ≡ bound_of x
    → a ≡ cond (dominatesb q k) 0 (capped (3 + 1)) → c ≡ cond (dominatesb q b) 0 (capped (3 + 1)) → d ≡ capped (test_size q ks is (j + 1) (i - 1))
    → e ≡ capped (c + d) → r ≡ capped (a + e) → r ≡ capped (test_size q ks is j i)
tests_counted q ks is j i k x b a c d e r n p g h u w y s z =
    let m : a ≡ capped (flat_size (test q (fixed (get_or ks j 0)))) = fixed_counted q k u ∙ ap (λ (o : ℕ). capped (flat_size (test q (fixed o)))) p in
    cap_two a e _ _ z m (cap_two c d _ _ s (row_counted q is j g h w) y) ∙ ap capped (sym (tests_suc q ks is j i n))

-- ---- the whole

pub flat_records : (ts : List Tree) (d : Tree) → size (conj ts d) ≡ flat_size ts + size d
unfolding conj flat_size size
flat_records [] d = omega arith
flat_records (t ∷ ts) d = omega (arith, flat_records ts d)
