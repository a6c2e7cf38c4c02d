-- From what the walk says of its notes and ends to what SELECT's writer requires.
-- Assumes nothing.
use Prim.Native.Nat.{ℕ, suc, ◌+◌, ◌-◌, ◌*◌, ◌/◌, ◌%◌, ◌<◌, ◌≤◌}
use mathlib.Core.Path.{◌≡◌, refl, sym, ap, ap₂, ◌∙◌}
use mathlib.Core.List.{List, [], ◌∷◌, ◌++◌}
use native.Mathlib.Omega.{arith}
use lib.ListN.{length, get_or, take, drop, length-append}
use lib.Seq.{drop-drop, get_or-drop}
use Rattle.class.specs.Info.{bound_of}
use Rattle.class.specs.declared.Info.{Info}
use Rattle.class.specs.declared.Info.TheVariants.{Fixed, Bound}
use Rattle.class.proofs.Infos.{info_by_fixed, info_by_bound}
use Rattle.resolve.specs.Expr.{Expr}
use Rattle.resolve.specs.Infos.{class_info}
use Rattle.resolve.specs.Notes.{notes_of, notes_all, end_note, ends_of}
use Rattle.tree.specs.Noted.{notes_in}
use Rattle.tree.proofs.Infos.{info_of_class}
use Rattle.label.specs.Left.{end_in, known_in, LeftAll}

unfoldable pub Small : ℕ → List Info → List Expr → Type 0
Small k is [] = Unit {0}
Small k is (x ∷ xs) = (bound_of (class_info k is x) < 65536) × Small k is xs

end_back : (n : ℕ) (i : Info) → n < 65536 → end_in (end_note n i) ≡ n
unfolding end_in end_note
end_back n (Fixed k) h = omega arith
end_back n (Bound b) h = omega arith

known_back : (n : ℕ) (i : Info) → n < 65536 → bound_of i < 65536 → known_in (end_note n i) ≡ i
unfolding known_in end_note bound_of
known_back n (Fixed k) h l =
    let x : (n + 65536 * k) / 4294967296 % 256 ≡ 0 = omega arith in
    let y : (n + 65536 * k) / 65536 % 65536 ≡ k = omega arith in
    info_by_fixed _ x ∙ ap Fixed y
known_back n (Bound b) h l =
    let x : (n + 65536 * b + 4294967296) / 4294967296 % 256 ≡ 1 = omega arith in
    let y : (n + 65536 * b + 4294967296) / 65536 % 65536 ≡ b = omega arith in
    info_by_bound _ (λ e. omega (arith, x)) ∙ ap Bound y

tail_is : {x y : ℕ} {xs ys : List ℕ} → x ∷ xs ≡ y ∷ ys → xs ≡ ys
tail_is e = cc

head_is : {x y : ℕ} {xs ys : List ℕ} → x ∷ xs ≡ y ∷ ys → x ≡ y
head_is e = cc

cut : (p q ys : List ℕ) → take (length (p ++ q)) ys ≡ p ++ q → (take (length p) ys ≡ p) × (take (length q) (drop (length p) ys) ≡ q)
cut [] q ys h = (refl, h)
cut (a ∷ p) q [] h = absurd (let z : ◌≡◌ {A = ℕ} 0 1 = cc in omega arith)
cut (a ∷ p) q (y ∷ ys) h =
    let r = cut p q ys (tail_is h) in
    (ap₂ (λ (b : ℕ) (zs : List ℕ). b ∷ zs) (head_is h) r.0, r.1)

-- the notes of two runs, one after the other
both_notes : (ws : List ℕ) (at : ℕ) (p q : List ℕ) → notes_in ws at (at + length (p ++ q)) ≡ p ++ q
    → (notes_in ws at (at + length p) ≡ p) × (notes_in ws (at + length p) (at + length p + length q) ≡ q)
unfolding notes_in
both_notes ws at p q h =
    let x : at + length (p ++ q) - at ≡ length (p ++ q) = omega arith in
    let y : at + length p - at ≡ length p = omega arith in
    let z : at + length p + length q - (at + length p) ≡ length q = omega arith in
    let r = cut p q (drop at ws) (rw x at h) in
    (rw y r.0, rw (z, ← drop-drop (length p) at ws) r.1)

first_is : (es : List ℕ) (j e : ℕ) (xs : List ℕ) → notes_in es j (j + suc (length xs)) ≡ e ∷ xs → get_or es j 0 ≡ e
unfolding notes_in
first_is es j e xs h =
    let x : j + suc (length xs) - j ≡ suc (length xs) = omega arith in
    let z : j ≡ j + 0 = omega arith in
    ap (λ (k : ℕ). get_or es k 0) z ∙ sym (get_or-drop j es 0 0) ∙ go (drop j es) (rw x at h)
  where
    go : (ys : List ℕ) → take (suc (length xs)) ys ≡ e ∷ xs → get_or ys 0 0 ≡ e
    go [] i = absurd (let z : ◌≡◌ {A = ℕ} 0 1 = cc in omega arith)
    go (y ∷ ys) i = head_is i

pub ends_number : (k : ℕ) (is : List Info) (at : ℕ) (xs : List Expr) → length (ends_of k is at xs) ≡ length xs
unfolding ends_of
ends_number k is at [] = refl
ends_number k is at (x ∷ xs) = ap suc (ends_number k is (at + length (notes_of x)) xs)

-- THE BRIDGE
pub left_all : (k : ℕ) (is : List Info) (ws es : List ℕ) (j : ℕ) (xs : List Expr) (at : ℕ)
    → at + length (notes_all xs) ≤ length ws → at + length (notes_all xs) < 65536 → j + length xs ≤ length es → Small k is xs
    → notes_in ws at (at + length (notes_all xs)) ≡ notes_all xs → notes_in es j (j + length xs) ≡ ends_of k is at xs → LeftAll k is ws es j xs at
unfolding LeftAll notes_all ends_of Small
left_all k is ws es j [] at a b c s n e = tt
left_all k is ws es j (x ∷ xs) at a b c s n e =
    let l = length-append (notes_of x) (notes_all xs) in
    let m = both_notes ws at (notes_of x) (notes_all xs) n in
    let q = ends_number k is (at + length (notes_of x)) xs in
    let z : j + suc (length xs) ≡ j + suc (length (ends_of k is (at + length (notes_of x)) xs)) = omega arith in
    let e₁ : notes_in es j (j + suc (length (ends_of k is (at + length (notes_of x)) xs))) ≡ end_note (at + length (notes_of x)) (class_info k is x) ∷ ends_of k is (at + length (notes_of x)) xs = ap (notes_in es j) (sym z) ∙ e in
    let w = first_is es j _ _ e₁ in
    let r = (both_notes es j (end_note (at + length (notes_of x)) (class_info k is x) ∷ []) (ends_of k is (at + length (notes_of x)) xs) e₁).1 in
    let y : j + 1 ≡ suc j = omega arith in (
      record {
        notes_long = omega arith;
        ends_long = omega arith;
        notes_are = m.0;
        end_is = ap end_in w ∙ end_back _ _ (omega arith);
        known_is = ap known_in w ∙ known_back _ _ (omega arith) s.0 ∙ sym (info_of_class k is x);
      },
      left_all k is ws es (suc j) xs (at + length (notes_of x)) (omega arith) (omega arith) (omega arith) s.1 m.1 (rw (q, y) at r),
    )
