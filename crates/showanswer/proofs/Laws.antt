-- The chunks of a row and of an answer, one after the other, and what a writer of known contents holds after one more.
-- Assumes nothing.
use Rattle.std.proofs.Common.{ℕ, zero, suc, min, ◌+◌, ◌-◌, ◌*◌, ◌/◌, ◌≡◌, ◌≤◌, ◌<◌, ◌∷◌, [], ◌++◌, List, Option, Some, None, length, take, drop, subst, sym, ap, ◌∙◌, add-one, suc-mul, zero-mul, arith}
use Rattle.std.specs.Io.KnownBytes.{Appends}
use Rattle.std.proofs.KnownBytes.{Appends-trans, Appends-nil}
use Rattle.std.proofs.Math.Seq.{take-append_seam, drop-append_seam}
use Rattle.std.proofs.lemmas.List.{take_all, drop-drop, length-drop, length-append}
use Rattle.std.proofs.lemmas.Nat.{div-mul-add, le-div}
use Rattle.std.specs.Slice.Iter.{chunks_exact_rest, chunks_exact_size, chunks_exact_steps}
use Rattle.std.specs.declared.slice.ChunksExact.{ChunksExact}
use denote.Ref.{Bor}
use Rattle.showanswer.specs.Shown.{cell_text, gap, cell_texts, row_line, row_lines}

-- after n chunks of a size what follows them is left
pub record Left (s : ChunksExact ℕ) (xs : List ℕ) (size n : ℕ) : Type 0 where
  pub size_is : chunks_exact_size s ≡ size
  pub rest : chunks_exact_rest s ≡ drop (n * size) xs
  pub fits : n * size ≤ length xs

-- x is chunk n
pub record Chunk (x xs : List ℕ) (size n : ℕ) : Type 0 where
  pub is : x ≡ take size (drop (n * size) xs)
  pub long : length x ≡ size

pub left_start : (s : ChunksExact ℕ) (xs : List ℕ) (size : ℕ) → chunks_exact_rest s ≡ xs → chunks_exact_size s ≡ size → Left s xs size 0
left_start s xs size e f = record { size_is = f; rest = rw zero-mul e; fits = rw zero-mul (omega arith) }

module _ (s t : ChunksExact ℕ) (xs : List ℕ) (size n : ℕ) (w : Left s xs size n) where
  pub left_further : (x : Bor (List ℕ)) → chunks_exact_steps s (Some x) t → Left t xs size (n + 1) × Chunk x.now xs size n
  left_further x (same, (cut, long), aside) =
      let all : x.now ++ chunks_exact_rest t ≡ drop (n * size) xs = sym cut ∙ w.rest in
      let size_now : length x.now ≡ size = long ∙ w.size_is in
      let more : (n + 1) * size ≡ n * size + size = rw (add-one, suc-mul) in
      let whole : length x.now + length (chunks_exact_rest t) ≡ length xs - n * size = sym (length-append x.now (chunks_exact_rest t)) ∙ ap length all ∙ length-drop (n * size) xs in
      let after : chunks_exact_rest t ≡ drop (n * size + length x.now) xs = sym (drop-append_seam x.now (chunks_exact_rest t)) ∙ ap (drop (length x.now)) all ∙ drop-drop (length x.now) (n * size) xs in
      let fits : n * size ≤ length xs = w.fits in (
        record { size_is = same ∙ w.size_is; rest = after ∙ ap (λ k. drop k xs) (ap (λ k. n * size + k) size_now ∙ sym more); fits = omega arith },
        record { is = sym (take-append_seam x.now (chunks_exact_rest t)) ∙ ap (take (length x.now)) all ∙ ap (λ k. take k (drop (n * size) xs)) size_now; long = size_now },
      )

  pub left_done : chunks_exact_steps s None t → length xs / size ≡ n
  left_done (same, (short, kept), aside) =
      let rest_long : length (chunks_exact_rest s) ≡ length xs - n * size = ap length w.rest ∙ length-drop (n * size) xs in
      let below : length xs - n * size < size = omega (arith, w.size_is) in
      let parts : length xs ≡ n * size + (length xs - n * size) = omega (arith, w.fits) in
      ap (λ k. k / size) parts ∙ div-mul-add n size (length xs - n * size) below

-- what is written before a cell
pub gap_some : (m n : Option (List ℕ)) (j : ℕ) → 0 < j → Appends m n (32 ∷ 32 ∷ []) → Appends m n (gap j)
gap_some m n zero h p = absurd (omega arith)
gap_some m n (suc j) h p = p

pub gap_none : (m : Option (List ℕ)) (j : ℕ) → j ≤ 0 → Appends m m (gap j)
gap_none m zero h = Appends-nil m
gap_none m (suc j) h = absurd (omega arith)

module _ (o l m n : Option (List ℕ)) (cells : List ℕ) (k : ℕ) (x : List ℕ) where
  pub cell_further : (j : ℕ) → Appends o l (cell_texts cells k) → Appends l m (gap j) → Appends m n (cell_text x) → j ≡ k → Chunk x cells 8 k → Appends o n (cell_texts cells (k + 1))
  unfolding cell_texts
  cell_further j p q r e f =
      rw add-one
      (Appends-trans o m n (cell_texts cells k ++ gap k) (cell_text (take 8 (drop (k * 8) cells)))
      (Appends-trans o l m (cell_texts cells k) (gap k) p (subst (λ i. Appends l m (gap i)) e q))
      (subst (λ y. Appends m n (cell_text y)) f.is r))

pub row_further : (o m n : Option (List ℕ)) (size : ℕ) (cells : List ℕ) (k : ℕ) (x : List ℕ) → Appends o m (row_lines size cells k) → Appends m n (row_line x) → Chunk x cells size k → Appends o n (row_lines size cells (k + 1))
unfolding row_lines
row_further o m n size cells k x p q f =
    rw add-one (Appends-trans o m n (row_lines size cells k) (row_line (take size (drop (k * size) cells))) p (subst (λ y. Appends m n (row_line y)) f.is q))

-- where no row more is wanted, or none is left
pub rows_done : (s t : ChunksExact ℕ) (cells : List ℕ) (size k left count : ℕ) → 0 < size → Left s cells size k → left + k ≡ count → (0 < left → chunks_exact_steps s None t) → k ≡ min count (length cells / size)
rows_done s t cells size k zero count some w e h = let most = le-div k (length cells) size some w.fits in omega arith
rows_done s t cells size k (suc left) count some w e h = let all = left_done s t cells size k w (h (omega arith)) in omega arith

-- what lies past the header
pub past_header : (out : List ℕ) → take (length out - 8) (drop 8 out) ≡ drop 8 out
past_header out = take_all (length out - 8) (drop 8 out) (omega (arith, length-drop 8 out))
