-- The bytes of an accepted value's data tree, one equation for each kind, in terms of its parts' bytes; and a record that is written last.
-- Assumes nothing.
use Prim.Native.Nat.{ℕ, zero, suc, ◌+◌, ◌-◌, ◌*◌, ◌≤◌, ◌<◌}
use mathlib.Core.Path.{◌≡◌, refl, sym, ap, ◌∙◌}
use mathlib.Core.Bool.{Bool, true, false, cond}
use mathlib.Core.List.{List, [], ◌∷◌, ◌++◌}
use native.Mathlib.Omega.{arith}
use lib.ListN.{length, set, length-map, length-append}
use Rattle.word.specs.Buffer.{put, Wrote}
use Rattle.word.specs.Record.{rec_bytes}
use Rattle.word.proofs.Laws.{length_rec}
use Rattle.word.proofs.Writing.{put_append}
use Rattle.class.specs.declared.Info.{Info}
use Rattle.cell.specs.Types.{digits_of, scale_of, same_type}
use Rattle.cell.specs.declared.Type.{«Type» as Ty}
use Rattle.cell.specs.declared.Value.{Value}
use Rattle.view.specs.declared.Fold.{Fold}
use Rattle.view.specs.declared.Pick.{Pick}
use Rattle.view.specs.declared.Node.{Node}
use Rattle.view.specs.declared.Node.TheVariants.{Const}
use Rattle.scope.specs.Scopes.{Hit, Only}
use Rattle.scope.specs.Table.{found_of}
use Rattle.scope.specs.declared.Scope.{Scope}
use Rattle.scope.specs.declared.Found.{Found}
use Rattle.resolve.specs.Expr.{Expr}
use Rattle.resolve.specs.Expr as expr
use Rattle.resolve.specs.Resolve.{brought}
use Rattle.resolve.specs.declared.Asked.{Asked}
use Rattle.resolve.specs.declared.Asked.TheVariants as ask
use Rattle.resolve.specs.declared.Files.{Files}
use Rattle.resolve.proofs.Inversion.{ColGood, of_column, of_local, ClassGood}
use Rattle.tree.specs.Tree.{Tree, table_recs, fold_kind, fold_op, pick_kind, encode}
use Rattle.tree.specs.Trans.{expr_data, nums}
use Rattle.tree.specs.Claims.{expr_at, type_at, data_at, limb_at, refs_at, const_tree, col_tree, class_tree, found_type, conv_bytes, block_kind, block_op}
use Rattle.tree.proofs.Accepted.{NotIs, BinopIs, IfIs, LetIs, ExistsIs, SingleIs}

-- ---- a record written after what follows it: BINOP's digits are known only once its operands are written, so its record is stored last.
-- The laws of `put` for that stand here, not with the others in crate word: no other writer stores out of order.

sets_swap : (o : List ℕ) (i j x y : ℕ) → i < j → set (set o j y) i x ≡ set (set o i x) j y
sets_swap [] i j x y h = refl
sets_swap (z ∷ o) i zero x y h = absurd (omega arith)
sets_swap (z ∷ o) zero (suc j) x y h = refl
sets_swap (z ∷ o) (suc i) (suc j) x y h = ap (λ (l : List ℕ). z ∷ l) (sets_swap o i j x y (omega arith))

set_put : (o : List ℕ) (i j x : ℕ) (ys : List ℕ) → i < j → set (put o j ys) i x ≡ put (set o i x) j ys
unfolding put
set_put o i j x [] h = refl
set_put o i j x (y ∷ ys) h = set_put (set o j y) i (suc j) x ys (omega arith) ∙ ap (λ (l : List ℕ). put l (suc j) ys) (sets_swap o i j x y h)

puts_swap : (o : List ℕ) (i j : ℕ) (xs ys : List ℕ) → i + length xs ≤ j → put (put o j ys) i xs ≡ put (put o i xs) j ys
unfolding put
puts_swap o i j [] ys h = refl
puts_swap o i j (x ∷ xs) ys h =
    ap (λ (l : List ℕ). put l (suc i) xs) (set_put o i j x ys (omega arith)) ∙ puts_swap (set o i x) (suc i) j xs ys (omega arith)

pub put_last : {o : List ℕ} {at : ℕ} {ys o₁ : List ℕ} {r₁ : ℕ} {o₂ : List ℕ} {r₂ : ℕ} (kind op a b c : ℕ)
    → Wrote o (at + 8) ys o₁ r₁ → Wrote o₁ at (rec_bytes kind op a b c) o₂ r₂ → Wrote o at (rec_bytes kind op a b c ++ ys) o₂ r₁
put_last {o} {at} {ys} {o₁} kind op a b c w v =
    let xs = rec_bytes kind op a b c in
    let n : length xs ≡ 8 = length_rec kind op a b c in
    let j : at + 8 ≡ at + length xs = omega (arith, n) in
    record {
      now_is = v.now_is ∙ ap (λ (l : List ℕ). put l at xs) w.now_is ∙ puts_swap o at (at + 8) xs ys (omega (arith, n))
          ∙ ap (λ (i : ℕ). put (put o at xs) i ys) j ∙ put_append o at xs ys;
      next_is = omega (arith, w.next_is, length-append xs ys, n);
    }

-- a constant
pub const_tree_lem : {nd : Node} {s : Ty} {x : Value} {y : Expr} → nd ≡ Const s x → y ≡ expr.Expr.const s x → const_tree nd ≡ expr_data y
unfolding const_tree expr_data
const_tree_lem e h = rw (e, h)

-- a name, by what it finds
pub col_tree_lem : (is : List Info) {o : Only Hit} {x : Expr} {s : Ty} {h : Found} → ColGood o x s → h ≡ found_of is o → col_tree h ≡ expr_data x
unfolding found_of col_tree expr_data
col_tree_lem is (of_column a b c w k e f g) i = rw (i, e, f)
col_tree_lem is (of_local a e f) i = rw (i, e, f)

pub class_tree_lem : (is : List Info) {o : Only Hit} {x : Expr} {s : Ty} {h : Found} → ClassGood o x s → h ≡ found_of is o → class_tree h ≡ expr_data x
unfolding found_of class_tree expr_data
class_tree_lem is g i = rw (i, g.found, g.is)

pub found_type_lem : (is : List Info) {o : Only Hit} {x : Expr} {s : Ty} {h : Found} → ColGood o x s → h ≡ found_of is o → found_type h ≡ s
unfolding found_of found_type
found_type_lem is (of_column a b c w k e f g) i = rw (i, e) (sym g)
found_type_lem is (of_local a e f) i = rw (i, e)

module _ (c ss v : List ℕ) (f : Files) (t : List Scope) (deep d at : ℕ) where
  -- what holds of the tree of its expression holds of its bytes
  pub tree_bytes : {y : Tree} → y ≡ expr_data (expr_at c v f t deep d at) → encode y ≡ encode (data_at c v f t deep d at)
  unfolding data_at
  tree_bytes e = ap encode e

  -- a limb, with CONV before it where it has another type
  pub limb_bytes : (r : Ty) → encode (limb_at c v f t deep d at r) ≡ conv_bytes (type_at c v f t deep d at) r ++ encode (data_at c v f t deep d at)
  unfolding limb_at data_at brought conv_bytes
  limb_bytes r = go (same_type (type_at c v f t deep d at) r)
    where
      go : (b : Bool) → encode (expr_data (cond b (expr_at c v f t deep d at) (expr.Expr.conv (digits_of r) (scale_of r) (expr_at c v f t deep d at))))
          ≡ cond b [] (rec_bytes 22 (16 * digits_of r + scale_of r) 0 0 0) ++ encode (expr_data (expr_at c v f t deep d at))
      go true = refl
      go false = unfold expr_data encode in refl

  pub not_bytes : NotIs c ss v f t deep d at → encode (data_at c v f t deep d at) ≡ rec_bytes 8 0 0 0 0 ++ encode (data_at c v f t deep (d - 1) (at + 1))
  unfolding data_at expr_data encode
  not_bytes b = ap (λ (x : Expr). encode (expr_data x)) b.is

  pub binop_bytes : (op m p : ℕ) → BinopIs c ss v f t deep d at op m → p ≡ digits_of (type_at c v f t deep d at)
      → encode (data_at c v f t deep d at) ≡ rec_bytes 7 op p 0 0 ++ (encode (data_at c v f t deep (d - 1) (at + 1)) ++ encode (data_at c v f t deep (d - 1) m))
  unfolding data_at expr_data encode
  binop_bytes op m p b e = rw e (ap (λ (x : Expr). encode (expr_data x)) b.is)

  pub if_bytes : (m l : ℕ) (r : Ty) → IfIs c ss v f t deep d at m l → r ≡ type_at c v f t deep d at
      → encode (data_at c v f t deep d at)
      ≡ rec_bytes 9 0 0 0 0 ++ (encode (data_at c v f t deep (d - 1) (at + 1)) ++ (encode (limb_at c v f t deep (d - 1) m r) ++ encode (limb_at c v f t deep (d - 1) l r)))
  unfolding data_at limb_at expr_data encode
  if_bytes m l r b e = rw e (ap (λ (x : Expr). encode (expr_data x)) b.is)

  pub let_bytes : (u : List Scope) (m : ℕ) → LetIs c ss v f t u deep d at m
      → encode (data_at c v f t deep d at) ≡ rec_bytes 23 0 0 0 0 ++ (encode (data_at c v f t deep (d - 1) (at + 1)) ++ encode (data_at c v f u (deep + 1) (d - 1) m))
  unfolding data_at expr_data encode
  let_bytes u m b = ap (λ (x : Expr). encode (expr_data x)) b.is

  -- a block's TABLE records are as many as the view's
  numbered : (count : ℕ) → length (refs_at c f.nc v (at + 1) count) ≡ count → length (nums (refs_at c f.nc v (at + 1) count)) ≡ count
  numbered count e = simp length-map e

  module _ (asked : Asked) (count : ℕ) (s : Scope) (u : List Scope) (k j : ℕ) (z : k ≡ block_kind asked) (y : j ≡ block_op asked) where
    pub exists_bytes : (h : Fold) → asked ≡ ask.Rows h → ExistsIs c ss v f t u deep d at count h s
        → encode (data_at c v f t deep d at)
        ≡ rec_bytes k j count 0 0 ++ (table_recs (nums (refs_at c f.nc v (at + 1) count)) ++ encode (data_at c v f u (deep + 1) (d - 1) (at + 1 + count)))
    unfolding data_at expr_data encode block_kind block_op
    exists_bytes h e b =
        rw (z, y, e) (ap (λ (x : Expr). encode (expr_data x)) b.is
        ∙ ap (λ (n : ℕ). rec_bytes (fold_kind h) (fold_op h) n 0 0 ++ (table_recs (nums (refs_at c f.nc v (at + 1) count)) ++ encode (expr_data (expr_at c v f u (deep + 1) (d - 1) (at + 1 + count))))) (numbered count b.block.counted))

    pub single_bytes : (h : Pick) (m : ℕ) → asked ≡ ask.Values h → SingleIs c ss v f t u deep d at count m h s
        → encode (data_at c v f t deep d at)
        ≡ rec_bytes k j count 0 0
        ++ (table_recs (nums (refs_at c f.nc v (at + 1) count)) ++ (encode (data_at c v f u (deep + 1) (d - 1) (at + 1 + count)) ++ encode (data_at c v f u (deep + 1) (d - 1) m)))
    unfolding data_at expr_data encode block_kind block_op
    single_bytes h m e b =
        rw (z, y, e) (ap (λ (x : Expr). encode (expr_data x)) b.is
        ∙ ap (λ (n : ℕ). rec_bytes (pick_kind h) 0 n 0 0
        ++ (table_recs (nums (refs_at c f.nc v (at + 1) count)) ++ (encode (expr_data (expr_at c v f u (deep + 1) (d - 1) (at + 1 + count))) ++ encode (expr_data (expr_at c v f u (deep + 1) (d - 1) m))))) (numbered count b.block.counted))
