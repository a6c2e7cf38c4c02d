-- The leaves of the writer: one law for each place of their code. Its premises are what the code has found there.
-- Assumes nothing.
use Rattle.std.specs.Prelude.{Option, Some, None, Err, unwrap_or}
use Prim.Native.Nat.{ℕ, zero, suc, ◌+◌, ◌*◌, ◌<◌, ◌≤◌}
use mathlib.Core.Path.{◌≡◌, refl, sym, ap, ap₂, ◌∙◌}
use mathlib.Core.Bool.{Bool, true, false}
use mathlib.Core.List.{List, [], ◌∷◌, ◌++◌}
use native.Mathlib.Omega.{arith}
use native.Mathlib.Numerals.{add-one}
use lib.ListN.{length, drop, drop_of_length-le}
use Rattle.word.specs.Record.{Record, rec_at, rec_bytes}
use Rattle.word.specs.Writer.{Writes}
use Rattle.word.specs.declared.writer.Writer.{Writer}
use Rattle.cell.specs.Res.{Res, stuck, done, or_else, option_of, nth}
use Rattle.cell.specs.Types.{digits_of, scale_of, same_type}
use Rattle.cell.specs.declared.Type.{«Type» as Ty}
use Rattle.cell.specs.declared.Type.TheVariants as T
use Rattle.catalogue.specs.Tables.{TabRef, tables_from, table_named}
use Rattle.catalogue.specs.Starts.{ref_of}
use Rattle.view.specs.Parse.{name_of, names_at}
use Rattle.view.specs.Record.{node_of, node_at, const_rec}
use Rattle.view.specs.declared.Fold.TheVariants as fold
use Rattle.view.proofs.Constants.{Small, const_again}
use Rattle.view.proofs.Says.{exists_digits}
use Rattle.scope.specs.Blocks.{tables_named}
use Rattle.scope.specs.Entry.{opened_by}
use Rattle.scope.proofs.Named.{names_length, number_again, block_fine}
use Rattle.resolve.specs.Claims.{block_node, Tabled}
use Rattle.resolve.specs.declared.Asked.{Asked}
use Rattle.resolve.specs.declared.Asked.TheVariants as ask
use Rattle.tree.specs.Tree.{rec_of, encode, table_recs, fold_op}
use Rattle.tree.specs.Trans.{nums}
use Rattle.tree.specs.Claims.{refs_at, IsConst, const_tree, conv_bytes, block_op}
use Rattle.tree.specs.Levels.{Fits}
use Rattle.tree.proofs.Writers.{writes_none, writes_as, fits_as, fits_front, fits_record, Rests, rests_next, rests_as, rests_done}

-- ---- the type of BINOP, where its rule is kept

pub type_or : (x : Res Ty) {r : Option Ty} → r ≡ option_of x → {s : Ty} → s ≡ unwrap_or r T.Null → s ≡ or_else T.Null x
unfolding option_of or_else
type_or stuck e h = rw e at h
type_or (done u) e h = rw e at h

-- ---- CONV

conv_is : (s t : Ty) {b : Bool} → b ≡ same_type s t → b ≡ false → conv_bytes s t ≡ rec_bytes 22 (16 * digits_of t + scale_of t) 0 0 0
unfolding conv_bytes
conv_is s t e f = rw (← e, f)

module _ {w : Writer} (s t : Ty) {b : Bool} (e : b ≡ same_type s t) where
  pub conv_same : b ≡ true → Writes (conv_bytes s t) w w
  unfolding conv_bytes
  conv_same f = rw (← e, f) writes_none

  pub conv_room : b ≡ false → Fits (conv_bytes s t) w → w.at + 8 ≤ length w.out.now
  conv_room f r = fits_record 22 (16 * digits_of t + scale_of t) 0 0 0 (fits_as (conv_is s t e f) r)

  pub conv_other : {w₁ : Writer} {p q : ℕ} → b ≡ false → p ≡ digits_of t → q ≡ scale_of t → Writes (rec_bytes 22 (16 * p + q) 0 0 0) w w₁ → Writes (conv_bytes s t) w w₁
  conv_other f i j x = writes_as (ap₂ (λ (m n : ℕ). rec_bytes 22 (16 * m + n) 0 0 0) i j ∙ sym (conv_is s t e f)) x

-- ---- a block's op

-- in a view it is a byte
pub op_small : (v : List ℕ) (at count : ℕ) (a : Asked) → node_at v at ≡ block_node a count → block_op a < 256
unfolding block_node block_op fold_op
op_small v at count (ask.Rows fold.Any) e = omega arith
op_small v at count (ask.Rows (fold.Count p)) e = let h = exists_digits v at refl e in omega arith
op_small v at count (ask.Values g) e = omega arith

-- ---- a constant

pub const_copied : (v : List ℕ) (at : ℕ) (r : Record) → IsConst (node_at v at) → r ≡ rec_at v at → Small r → rec_of r ≡ encode (const_tree (node_at v at))
unfolding const_tree encode
const_copied v at r k e s =
    let g : r ≡ const_rec k.ty k.value = const_again r s (unfold node_at in ap node_of e ∙ k.is) in
    rw k.is (ap (λ (x : Record). rec_of x) g)

-- ---- TABLE records, a loop of writers

part : (ts : List TabRef) (j : ℕ) → j < length ts → (t : TabRef) × (nth ts j ≡ done t) × (drop j ts ≡ t ∷ drop (suc j) ts)
unfolding nth
part [] j h = absurd (omega arith)
part (t ∷ ts) zero h = (t, refl, refl)
part (t ∷ ts) (suc j) h = part ts j (omega arith)

module _ (c : List ℕ) (n : ℕ) (ss : List ℕ) (tables : ℕ) (v : List ℕ) (at count : ℕ) where
  module _ (w : Tabled c n ss tables v at count) where
    refs_long : length (refs_at c n v at count) ≡ count
    unfolding refs_at
    refs_long = names_length _ v at count (refs_at c n v at count) w.found

    module _ (j : ℕ) (r : Option ℕ) (h : j < count) (e : table_named (name_of (node_at v (at + j))) (tables_from c n n 0) ≡ ref_of c n ss r) where
      own : (t : TabRef) × (nth (refs_at c n v at count) j ≡ done t) × (drop j (refs_at c n v at count) ≡ t ∷ drop (suc j) (refs_at c n v at count))
      own = part (refs_at c n v at count) j (omega (arith, refs_long))

      number_is : r ≡ Some own.0.num
      unfolding refs_at
      number_is = number_again c n tables ss v at count (refs_at c n v at count) own.0 j (at + j) r w.found h own.1 refl e

      pub number_missing : r ≡ None → ⊥
      number_missing g = let z : ◌≡◌ {A = Option ℕ} None (Some own.0.num) = sym g ∙ number_is in absurd (let y : ◌≡◌ {A = ℕ} 0 1 = cc in omega arith)

      pub next_rec : (k : ℕ) → r ≡ Some k
          → table_recs (nums (drop j (refs_at c n v at count))) ≡ rec_bytes 12 0 k 0 0 ++ table_recs (nums (drop (j + 1) (refs_at c n v at count)))
      unfolding table_recs
      next_rec k g =
          let z : Some own.0.num ≡ Some k = sym number_is ∙ g in
          let q : own.0.num ≡ k = cc in
          rw (add-one j, ← q) (ap (λ (ts : List TabRef). table_recs (nums ts)) own.2)

    module _ {x₀ x : Writer} {j : ℕ} (l : Rests (table_recs (nums (drop j (refs_at c n v at count)))) x (table_recs (nums (refs_at c n v at count))) x₀) where
      pub left_room : (r : Option ℕ) (k : ℕ) → j < count → table_named (name_of (node_at v (at + j))) (tables_from c n n 0) ≡ ref_of c n ss r → r ≡ Some k → x.at + 8 ≤ length x.out.now
      left_room r k h e g = fits_record 12 0 k 0 0 (fits_front (table_recs (nums (drop (j + 1) (refs_at c n v at count)))) (fits_as (next_rec j r h e k g) l.room))

      pub left_again : (r : Option ℕ) (k : ℕ) {x₁ : Writer} → j < count → table_named (name_of (node_at v (at + j))) (tables_from c n n 0) ≡ ref_of c n ss r → r ≡ Some k
          → Writes (rec_bytes 12 0 k 0 0) x x₁ → Rests (table_recs (nums (drop (j + 1) (refs_at c n v at count)))) x₁ (table_recs (nums (refs_at c n v at count))) x₀
      left_again r k h e g y = rests_next y (rests_as (next_rec j r h e k g) l)

      pub left_done : count ≤ j → Writes (table_recs (nums (refs_at c n v at count))) x₀ x
      unfolding table_recs
      left_done h =
          let z : length (refs_at c n v at count) ≤ j = omega (arith, refs_long) in
          rests_done (rests_as (ap (λ (ts : List TabRef). table_recs (nums ts)) (drop_of_length-le (refs_at c n v at count) z)) l)

    -- the entry of tables that are there is no refusal
    pub opened_there : {p : ℕ} → Err p ≡ opened_by ss (tables_named (tables_from c n n 0) (names_at v at count)) → ⊥
    opened_there {p} e =
        let z = block_fine c n tables ss v at count _ (Err p) w.found e in
        absurd (let y : ◌≡◌ {A = ℕ} 0 1 = cc in omega arith)
