-- SELECT's data from the notes: what the walk left of a value says where it ends, what is known of its class, and that its notes give its data.
-- Assumes nothing.
use Prim.Native.Nat.{ℕ, zero, suc, ◌+◌, ◌-◌, ◌<◌, ◌≤◌}
use mathlib.Core.Path.{◌≡◌, sym, ap, subst, ◌∙◌}
use mathlib.Core.List.{List, ◌++◌}
use native.Mathlib.Omega.{arith}
use lib.ListN.{length, get_or}
use Rattle.word.specs.Writer.{Writes}
use Rattle.word.specs.declared.writer.Writer.{Writer}
use Rattle.class.specs.declared.Info.{Info}
use Rattle.scope.specs.Table.{infos_of}
use Rattle.scope.specs.declared.Scope.{Scope}
use Rattle.resolve.specs.Notes.{notes_of}
use Rattle.resolve.specs.declared.Files.{Files}
use Rattle.tree.specs.Tree.{encode}
use Rattle.tree.specs.Trans.{as_tree, info_of}
use Rattle.tree.specs.Noted.{noted_bytes, notes_in, Noting}
use Rattle.tree.specs.Levels.{Fits}
use Rattle.tree.specs.Claims.{expr_at, data_at, next_at, Accepted}
use Rattle.tree.proofs.Notes.{noted_long, noting, noted_asks, noted_done}
use Rattle.label.specs.Claims.{class_at}
use Rattle.tree.proofs.Writers.{fits_as, fits_front, fits_after, Rests, rests_as, rests_next, rests_done}
use Rattle.label.specs.Whole.{Accepts, pair_bytes}
use Rattle.label.proofs.Whole.{accepts_some, accepts_next, pairs_next, pairs_none}
use Rattle.label.specs.Left.{end_in, known_in, Left, LeftAll, exprs_at}

module _ (c v : List ℕ) (f : Files) (t : List Scope) (ws es : List ℕ) (j : ℕ) where
  pub left_known : (m : ℕ) → Left f.k (infos_of t 1) ws es j (expr_at c v f t 1 15 m) m → {i : Info} → i ≡ known_in (get_or es j 0) → i ≡ info_of (class_at c v f t 1 15 m)
  unfolding class_at
  left_known m l e = e ∙ l.known_is

  -- so many values in a row: the first, and the rest
  left_parts : (i m : ℕ) → 0 < i → LeftAll f.k (infos_of t 1) ws es j (exprs_at c v f t i m) m
      → Left f.k (infos_of t 1) ws es j (expr_at c v f t 1 15 m) m
      × LeftAll f.k (infos_of t 1) ws es (suc j) (exprs_at c v f t (i - 1) (next_at v f 15 m)) (m + length (notes_of (expr_at c v f t 1 15 m)))
  unfolding exprs_at LeftAll
  left_parts zero m h l = absurd (omega arith)
  left_parts (suc i) m h l = let z : suc i - 1 ≡ i = omega arith in (l.0, rw z l.1)

  pub left_here : (i m : ℕ) → 0 < i → LeftAll f.k (infos_of t 1) ws es j (exprs_at c v f t i m) m → Left f.k (infos_of t 1) ws es j (expr_at c v f t 1 15 m) m
  left_here i m h l = (left_parts i m h l).0

module _ (c ss v : List ℕ) (f : Files) (t : List Scope) (ws es : List ℕ) (j m : ℕ) (w : Accepted c ss v f t 1 15 m) where
  module _ (l : Left f.k (infos_of t 1) ws es j (expr_at c v f t 1 15 m) m) where
    own_notes : notes_in ws m (next_at v f 15 m) ≡ notes_of (expr_at c v f t 1 15 m)
    own_notes = ap (notes_in ws m) (sym (noted_long c ss v f t 1 15 m w)) ∙ l.notes_are

    module _ {n : ℕ} (e : n ≡ end_in (get_or es j 0)) where
      pub left_end : n ≡ next_at v f 15 m
      left_end = e ∙ l.end_is ∙ noted_long c ss v f t 1 15 m w

      -- what the writer of the data asks for, and what it has done
      pub left_noting : Noting v ws m n
      left_noting = subst (Noting v ws m) (sym left_end) (noting c ss v f t 1 15 m w ws (omega (arith, l.notes_long, noted_long c ss v f t 1 15 m w)))

      pub left_asks : {x : Writer} → Fits (encode (data_at c v f t 1 15 m)) x → Fits (noted_bytes v (notes_in ws m n) m) x
      left_asks {x} r = subst (λ (k : ℕ). Fits (noted_bytes v (notes_in ws m k) m) x) (sym left_end) (noted_asks c ss v f t 1 15 m w ws own_notes r)

      pub left_done : {x y : Writer} → Writes (noted_bytes v (notes_in ws m n) m) x y → Writes (encode (data_at c v f t 1 15 m)) x y
      left_done {x} {y} h = noted_done c ss v f t 1 15 m w ws own_notes (subst (λ (k : ℕ). Writes (noted_bytes v (notes_in ws m k) m) x y) left_end h)

  -- n is the record after the first of so many values
  pub left_next : (i : ℕ) → 0 < i → LeftAll f.k (infos_of t 1) ws es j (exprs_at c v f t i m) m → {n : ℕ} → n ≡ next_at v f 15 m → LeftAll f.k (infos_of t 1) ws es (j + 1) (exprs_at c v f t (i - 1) n) n
  left_next i h l {n} e =
      let z : suc j ≡ j + 1 = omega arith in
      let y : m + length (notes_of (expr_at c v f t 1 15 m)) ≡ next_at v f 15 m = noted_long c ss v f t 1 15 m w in
      rw (e, ← z) (rw y at (left_parts c v f t ws es j i m h l).1)

-- ---- a loop over values: i of them are left, from record m on, with ends from word j on; what is left of their bytes comes to all of them
pub record PairsLeft (c ss v : List ℕ) (f : Files) (t : List Scope) (ws es : List ℕ) (i j m : ℕ) (x : Writer) (all : List ℕ) (x₀ : Writer) : Type 0 where
  pub there : Accepts c ss v f t i m
  pub left : LeftAll f.k (infos_of t 1) ws es j (exprs_at c v f t i m) m
  pub rests : Rests (pair_bytes c v f t i m) x all x₀

module _ (c ss v : List ℕ) (f : Files) (t : List Scope) (ws es : List ℕ) (i j m : ℕ) {x : Writer} {all : List ℕ} {x₀ : Writer} (l : PairsLeft c ss v f t ws es i j m x all x₀) where
  pub pairs_done : i ≤ 0 → Writes all x₀ x
  pairs_done h = rests_done (rests_as (pairs_none c v f t i m h) l.rests)

  module _ (h : 0 < i) where
    pub pair_there : Accepted c ss v f t 1 15 m
    pair_there = (accepts_some c ss v f t i m h l.there).0

    pub pair_left : Left f.k (infos_of t 1) ws es j (expr_at c v f t 1 15 m) m
    pair_left = left_here c v f t ws es j i m h l.left

    module _ {n : ℕ} (e : n ≡ end_in (get_or es j 0)) where
      next : n ≡ next_at v f 15 m
      next = left_end c ss v f t ws es j m pair_there pair_left e

      bytes : pair_bytes c v f t i m ≡ encode (data_at c v f t 1 15 m) ++ (encode (as_tree (class_at c v f t 1 15 m)) ++ pair_bytes c v f t (i - 1) n)
      bytes = pairs_next c v f t i m n h next

      pub pair_noting : Noting v ws m n
      pair_noting = left_noting c ss v f t ws es j m pair_there pair_left e

      pub pair_asks : Fits (noted_bytes v (notes_in ws m n) m) x
      pair_asks = left_asks c ss v f t ws es j m pair_there pair_left e (fits_front _ (fits_as bytes l.rests.room))

      module _ {x₁ : Writer} (y : Writes (noted_bytes v (notes_in ws m n) m) x x₁) where
        own_data : Writes (encode (data_at c v f t 1 15 m)) x x₁
        own_data = left_done c ss v f t ws es j m pair_there pair_left e y

        pub class_asks : Fits (encode (as_tree (class_at c v f t 1 15 m))) x₁
        class_asks = fits_front _ (fits_after own_data (fits_as bytes l.rests.room))

        pub pairs_again : {x₂ : Writer} {i₁ j₁ : ℕ} → Writes (encode (as_tree (class_at c v f t 1 15 m))) x₁ x₂ → i - 1 ≡ i₁ → j + 1 ≡ j₁ → PairsLeft c ss v f t ws es i₁ j₁ n x₂ all x₀
        pairs_again {x₂} {i₁} {j₁} z g k =
            subst (λ (a : ℕ). PairsLeft c ss v f t ws es a j₁ n x₂ all x₀) g (subst (λ (b : ℕ). PairsLeft c ss v f t ws es (i - 1) b n x₂ all x₀) k
            (record {
              there = accepts_next c ss v f t i m n h l.there next;
              left = left_next c ss v f t ws es j m pair_there i h l.left next;
              rests = rests_next z (rests_next own_data (rests_as bytes l.rests));
            }))
