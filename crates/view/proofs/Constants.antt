-- The constants of a view: a constant's value is of its type, its type is in rule, and its record is the type's and the value's own.
-- Assumes nothing.
use Prim.Native.Nat.{ℕ, zero, suc, ◌+◌, ◌*◌, ◌/◌, ◌%◌, ◌≤◌, ◌<◌}
use mathlib.Core.Path.{◌≡◌, refl, sym, ◌∙◌}
use mathlib.Core.Bool.{true, cond, ◌&&◌}
use mathlib.Core.List.{List}
use native.Mathlib.Omega.{arith}
use borrow.Author.Tests.{eqb-true, leb-true, lt-ltb}
use lib.Dec.{eqb, leb, ltb}
use lib.IntN.{pos, nat_abs}
use lib.ListN.{get_or}
use lib.Signed.{mag}
use Rattle.word.specs.Bytes.{bits32}
use Rattle.word.specs.Record.{Record, rec_at}
use Rattle.word.proofs.Laws.{bits_signed, signed_small}
use Rattle.cell.specs.Types.{digits_rule, in_rule}
use Rattle.cell.specs.Values.{digits, number_in, HasTy, ok_null, ok_truth, ok_fixed, ok_time, ok_interval, ok_class}
use Rattle.cell.specs.declared.Type.{«Type» as Ty}
use Rattle.cell.specs.declared.Value.{Value}
use Rattle.view.specs.Record.{op_only, value_in, node_of, node_at, const_rec}
use Rattle.view.specs.declared.Node.{Node}
use Rattle.view.specs.declared.Node.TheVariants.{Const}
use Rattle.view.proofs.Laws.{and_left, and_right}
use Rattle.view.proofs.Says.{Says, says_null, says_truth, says_fixed, says_time, says_interval, says_class, says_node}

-- a record whose fields are numbers of their widths
pub record Small (r : Record) : Type 0 where
  pub op_small : r.op < 256
  pub a_small : r.a < 65536
  pub b_small : r.b < 65536
  pub c_small : r.c < 65536

-- every record of a file is one, since its bytes are bytes
pub small : (v : List ℕ) (i : ℕ) → ((j : ℕ) → get_or v j 0 < 256) → Small (rec_at v i)
unfolding rec_at
small v i h = record {
  op_small = h (8 + 8 * i + 1);
  a_small = omega (arith, h (8 + 8 * i + 2), h (8 + 8 * i + 2 + 1));
  b_small = omega (arith, h (8 + 8 * i + 4), h (8 + 8 * i + 4 + 1));
  c_small = omega (arith, h (8 + 8 * i + 6), h (8 + 8 * i + 6 + 1));
}

-- two and three fields at zero
two : (a b : ℕ) → (eqb a 0 && eqb b 0) ≡ true → (a ≡ 0) × (b ≡ 0)
two a b e = (eqb-true a 0 (and_left (eqb a 0) (eqb b 0) e), eqb-true b 0 (and_right (eqb a 0) (eqb b 0) e))

three : (a b c : ℕ) → (eqb a 0 && (eqb b 0 && eqb c 0)) ≡ true → (a ≡ 0) × (b ≡ 0) × (c ≡ 0)
three a b c e =
    let h = two b c (and_right (eqb a 0) (eqb b 0 && eqb c 0) e) in
    (eqb-true a 0 (and_left (eqb a 0) (eqb b 0 && eqb c 0) e), h.0, h.1)

-- the same record, field by field
same : (r s : Record) → r.kind ≡ s.kind → r.op ≡ s.op → r.a ≡ s.a → r.b ≡ s.b → r.c ≡ s.c → r ≡ s
same r s k o a b c = λ i. record { kind = k i; op = o i; a = a i; b = b i; c = c i }

flag : (n : ℕ) → n ≤ 1 → n ≡ nat_abs (cond (eqb n 1) (pos 1) (pos 0))
flag zero h = refl
flag (suc zero) h = refl
flag (suc (suc n)) h = absurd (omega arith)

module _ (r : Record) (w : Small r) where
  signed_word : ltb (mag (value_in r)) 2147483648 ≡ true
  signed_word = lt-ltb _ _ (signed_small (r.b + 65536 * r.c) (omega arith))

  low : bits32 (value_in r) % 65536 ≡ r.b
  low = rw (bits_signed (r.b + 65536 * r.c) (omega arith)) (omega arith)

  high : bits32 (value_in r) / 65536 ≡ r.c
  high = rw (bits_signed (r.b + 65536 * r.c) (omega arith)) (omega arith)

  typed : {t : Ty} {x : Value} → Says r (Const t x) → HasTy t x
  typed (says_null k e) = ok_null
  typed (says_truth k e) = ok_truth
  typed (says_fixed k e) = ok_fixed (and_right (eqb r.a 0) (digits_rule (r.op / 16) (r.op % 16) && digits (r.op / 16) (value_in r)) e)
  typed (says_time k e) = ok_time signed_word
  typed (says_interval k e) = ok_interval signed_word
  typed (says_class k e) = ok_class (lt-ltb _ _ w.a_small)

  again : {t : Ty} {x : Value} → Says r (Const t x) → r ≡ const_rec t x
  unfolding const_rec number_in
  again (says_null k e) =
      let h = two r.op r.a (and_left (eqb r.op 0 && eqb r.a 0) (eqb r.b 0 && eqb r.c 0) e) in
      let g = two r.b r.c (and_right (eqb r.op 0 && eqb r.a 0) (eqb r.b 0 && eqb r.c 0) e) in
      same r _ k h.0 h.1 g.0 g.1
  again (says_truth k e) =
      let h = three r.a r.b r.c (and_right (leb r.op 1) (op_only r) e) in
      same r _ k (flag r.op (leb-true r.op 1 (and_left (leb r.op 1) (op_only r) e))) h.0 h.1 h.2
  again (says_fixed k e) =
      let z = and_left (eqb r.a 0) (digits_rule (r.op / 16) (r.op % 16) && digits (r.op / 16) (value_in r)) e in
      same r _ k (omega arith) (eqb-true r.a 0 z) (sym low) (sym high)
  again (says_time k e) = same r _ k refl (eqb-true r.a 0 e) (sym low) (sym high)
  again (says_interval k e) = same r _ k refl (eqb-true r.a 0 e) (sym low) (sym high)
  again (says_class k e) = let h = three r.op r.b r.c e in same r _ k h.0 refl h.1 h.2

  -- A CONSTANT'S VALUE IS OF ITS TYPE
  pub const_typed : {t : Ty} {x : Value} → node_of r ≡ Const t x → HasTy t x
  const_typed e = typed (says_node r e)

  -- A CONSTANT'S RECORD IS ITS OWN ENCODING
  pub const_again : {t : Ty} {x : Value} → node_of r ≡ Const t x → r ≡ const_rec t x
  const_again e = again (says_node r e)

ruled : (r : Record) {t : Ty} {x : Value} → Says r (Const t x) → in_rule t ≡ true
unfolding in_rule
ruled r (says_null k e) = refl
ruled r (says_truth k e) = refl
ruled r (says_fixed k e) = and_left (digits_rule (r.op / 16) (r.op % 16)) (digits (r.op / 16) (value_in r)) (and_right (eqb r.a 0) (digits_rule (r.op / 16) (r.op % 16) && digits (r.op / 16) (value_in r)) e)
ruled r (says_time k e) = refl
ruled r (says_interval k e) = refl
ruled r (says_class k e) = refl

-- a constant's type is in rule
pub const_ruled : (r : Record) {t : Ty} {x : Value} → node_of r ≡ Const t x → in_rule t ≡ true
const_ruled r e = ruled r (says_node r e)

-- the same of record i of a view, as a pass holds it
module _ (v : List ℕ) (i : ℕ) {nd : Node} {t : Ty} {x : Value} (e : nd ≡ node_at v i) (f : nd ≡ Const t x) where
  here : node_of (rec_at v i) ≡ Const t x
  unfolding node_at
  here = sym e ∙ f

  pub typed_at : ((j : ℕ) → get_or v j 0 < 256) → HasTy t x
  typed_at h = const_typed (rec_at v i) (small v i h) here

  pub again_at : ((j : ℕ) → get_or v j 0 < 256) → rec_at v i ≡ const_rec t x
  again_at h = const_again (rec_at v i) (small v i h) here

  pub ruled_at : in_rule t ≡ true
  ruled_at = const_ruled (rec_at v i) here
