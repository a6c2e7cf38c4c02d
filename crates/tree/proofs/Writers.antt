-- What writers say: the same bytes said otherwise, room for a run and for what follows it, a record that is written after what follows it.
-- Assumes nothing.
use Prim.Native.Nat.{ℕ, ◌+◌, ◌≤◌}
use mathlib.Core.Path.{◌≡◌, refl, subst, ◌∙◌}
use mathlib.Core.List.{List, [], ◌++◌}
use native.Mathlib.Omega.{arith}
use lib.ListN.{length, length-append}
use Rattle.word.specs.Buffer.{put, Wrote}
use Rattle.word.specs.Record.{rec_bytes}
use Rattle.word.specs.Writer.{Writes}
use Rattle.word.specs.declared.writer.Writer.{Writer}
use Rattle.word.proofs.Laws.{length_rec}
use Rattle.word.proofs.Writing.{kept, Todo, todo_all, todo_less, todo_none}
use Rattle.tree.specs.Tree.{Tree, tree_const, tree_binop, tree_not, tree_if, tree_exists, tree_value, tree_data, tree_cell_class, tree_row_class, tree_local, tree_local_class, tree_conv, tree_bind, tree_bind_class, tree_lub, tree_dom, tree_agg, size, encode}
use Rattle.tree.specs.Levels.{Fits}
use Rattle.tree.proofs.Sizes.{length_encode}
use Rattle.tree.proofs.Writing.{put_last}

-- as a run of stores
pub as_wrote : {xs : List ℕ} {w w₁ : Writer} → Writes xs w w₁ → Wrote w.out.now w.at xs w₁.out.now w₁.at
as_wrote x = record { now_is = x.written; next_is = x.place }

pub kept_long : {xs : List ℕ} {w w₁ : Writer} → Writes xs w w₁ → length w₁.out.now ≡ length w.out.now
kept_long x = kept (as_wrote x)

-- the same bytes, said otherwise
pub writes_as : {xs ys : List ℕ} {w w₁ : Writer} → xs ≡ ys → Writes xs w w₁ → Writes ys w w₁
writes_as {xs} {ys} {w} {w₁} e x = subst (λ (l : List ℕ). Writes l w w₁) e x

pub fits_as : {xs ys : List ℕ} {w : Writer} → xs ≡ ys → Fits xs w → Fits ys w
fits_as {xs} {ys} {w} e r = subst (λ (l : List ℕ). Fits l w) e r

-- room for a run and more: room for the run, and after it room for the rest
pub fits_front : {xs : List ℕ} {w : Writer} (ys : List ℕ) → Fits (xs ++ ys) w → Fits xs w
fits_front {xs} ys r = record { within = omega (arith, r.within, length-append xs ys) }

pub fits_after : {xs ys : List ℕ} {w w₁ : Writer} → Writes xs w w₁ → Fits (xs ++ ys) w → Fits ys w₁
fits_after {xs} {ys} x r = record { within = omega (arith, r.within, x.place, kept_long x, length-append xs ys) }

-- room for a record, alone or as the first of a tree
pub fits_record : {w : Writer} (kind op a b c : ℕ) → Fits (rec_bytes kind op a b c) w → w.at + 8 ≤ length w.out.now
fits_record kind op a b c r = omega (arith, r.within, length_rec kind op a b c)

size_some : (t : Tree) → 1 ≤ size t
unfolding size
size_some (tree_const t v) = omega arith
size_some (tree_binop op p x y) = omega arith
size_some (tree_not x) = omega arith
size_some (tree_if c x y) = omega arith
size_some (tree_exists f ns w) = omega arith
size_some (tree_value g ns w v) = omega arith
size_some (tree_data a b c) = omega arith
size_some (tree_cell_class a b c) = omega arith
size_some (tree_row_class a b) = omega arith
size_some (tree_local a) = omega arith
size_some (tree_local_class a) = omega arith
size_some (tree_conv p s x) = omega arith
size_some (tree_bind v b) = omega arith
size_some (tree_bind_class c v b) = omega arith
size_some (tree_lub x y) = omega arith
size_some (tree_dom x y) = omega arith
size_some (tree_agg ns x) = omega arith

pub fits_tree : {w : Writer} (t : Tree) → Fits (encode t) w → w.at + 8 ≤ length w.out.now
fits_tree t r = omega (arith, r.within, length_encode t, size_some t)

-- nothing written
pub writes_none : {w : Writer} → Writes [] w w
unfolding put
writes_none = record { same = refl; place = omega arith; written = refl }

pub writes_nothing : {xs : List ℕ} {w : Writer} → xs ≡ [] → Writes xs w w
writes_nothing e = rw e writes_none

-- a record written after what follows it
pub fits_behind : {ys : List ℕ} {w : Writer} (kind op a b c : ℕ) → Fits (rec_bytes kind op a b c ++ ys) w → Fits ys (record { out = w.out; at = w.at + 8 })
fits_behind {ys} kind op a b c r = record { within = omega (arith, r.within, length-append (rec_bytes kind op a b c) ys, length_rec kind op a b c) }

pub writes_last : {ys : List ℕ} {w w₁ n : Writer} {r : ℕ} (kind op a b c : ℕ) → Writes ys (record { out = w.out; at = w.at + 8 }) w₁
    → Wrote w₁.out.now w.at (rec_bytes kind op a b c) n.out.now r → n.out.ghost_name ≡ w₁.out.ghost_name → n.at ≡ w₁.at → Writes (rec_bytes kind op a b c ++ ys) w n
writes_last {ys} {w} {w₁} {n} kind op a b c x v g h =
    let z = put_last kind op a b c (as_wrote x) v in
    record { same = g ∙ x.same; place = h ∙ z.next_is; written = z.now_is }

-- ---- a loop of writes: what is still to be written by w, xs, is the rest of what w₀ had to write, all; and there is room for it

pub record Rests (xs : List ℕ) (w : Writer) (all : List ℕ) (w₀ : Writer) : Type 0 where
  pub same : w.out.ghost_name ≡ w₀.out.ghost_name
  pub room : Fits xs w
  pub todo : Todo w.out.now w.at xs w₀.out.now w₀.at all

pub rests_begin : {xs : List ℕ} {w : Writer} → Fits xs w → Rests xs w xs w
rests_begin {xs} {w} r = record { same = refl; room = r; todo = todo_all w.out.now w.at xs }

pub rests_as : {xs ys : List ℕ} {w : Writer} {all : List ℕ} {w₀ : Writer} → xs ≡ ys → Rests xs w all w₀ → Rests ys w all w₀
rests_as {xs} {ys} {w} {all} {w₀} e l = subst (λ (zs : List ℕ). Rests zs w all w₀) e l

pub rests_next : {xs ys : List ℕ} {w w₁ : Writer} {all : List ℕ} {w₀ : Writer} → Writes xs w w₁ → Rests (xs ++ ys) w all w₀ → Rests ys w₁ all w₀
rests_next x l = record { same = x.same ∙ l.same; room = fits_after x l.room; todo = todo_less (as_wrote x) l.todo }

pub rests_done : {w : Writer} {all : List ℕ} {w₀ : Writer} → Rests [] w all w₀ → Writes all w₀ w
rests_done l = let z = todo_none l.todo in record { same = l.same; place = z.next_is; written = z.now_is }
