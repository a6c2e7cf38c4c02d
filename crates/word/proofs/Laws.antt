-- Laws of numbers, records and headers in bytes: what is written is read again, at its place in a buffer too.
-- Assumes nothing.
use Prim.Native.Nat.{ℕ, suc, ◌+◌, ◌-◌, ◌*◌, ◌/◌, ◌%◌, ◌^◌, ◌≤◌, ◌<◌}
use mathlib.Core.Path.{◌≡◌, refl, sym, ap, ◌∙◌, subst}
use mathlib.Core.Bool.{Bool, true, false, ◌&&◌}
use mathlib.Core.List.{List, [], ◌∷◌, ◌++◌, append_assoc}
use native.Mathlib.Omega.{arith}
use native.Mathlib.Nat.{add-zero, add_assoc}
use native.Mathlib.Decide.{dec_lt}
use lib.Dec.{T, leb, eqb}
use lib.ListN.{length, get_or, length-append}
use lib.IntN.{ℤ, pos, negsuc}
use lib.Signed.{mag}
use mir.Syntax.{w32}
use mir.Val.{to_z, of_z, SFits}
use mir.Facts.{to_z-of_z, to_z_pos, to_z-neg}
use Rattle.std.specs.List.{starts_with}
use borrow.Author.Tests.{lt-ltb, le-ltb, le-leb, leb-true, eq-eqb, ne_eqb, eqb-true}
use Rattle.word.specs.Bytes.{u16_at, u32_at, i32_at, signed32, bits32, le16, le32}
use Rattle.word.specs.Buffer.{put, Wrote, Room}
use Rattle.word.specs.Record.{Record, rec_at, rec_bytes}
use Rattle.word.specs.Header.{starts, headed, count_at, header}
use Rattle.word.proofs.Writing.{put_at, put_before, put_after}

-- ---- tests

and_left : (x y : Bool) → x && y ≡ true → x ≡ true
and_left true y e = refl
and_left false y e = e

and_right : (x y : Bool) → x && y ≡ true → y ≡ true
and_right true y e = e
and_right false y e = absurd (subst (λ (b : Bool). T b) (sym e) tt)

-- ---- signed numbers

pub signed_low : (n : ℕ) → n < 2147483648 → signed32 n ≡ pos n
unfolding signed32
signed_low n h = rw (lt-ltb n 2147483648 h)

pub signed_high : (n : ℕ) → 2147483648 ≤ n → signed32 n ≡ negsuc (4294967295 - n)
unfolding signed32
signed_high n h = rw (le-ltb n 2147483648 h)

-- the library's readings of 32 bits
pub signed_is : (n : ℕ) → n < 4294967296 → to_z w32 n ≡ signed32 n
signed_is n h = by (dec_lt n 2147483648)
  where
    by : Dec (n < 2147483648) → to_z w32 n ≡ signed32 n
    by (yes l) = to_z_pos w32 l ∙ sym (signed_low n l)
    by (no g) =
        let e : n ≡ 4294967296 - suc (4294967295 - n) = omega (arith, g) in
        ap (to_z w32) e ∙ to_z-neg w32 (4294967295 - n) (omega (arith, g)) ∙ sym (signed_high n (omega (arith, g)))

pub bits_are : (z : ℤ) → SFits w32 z → of_z w32 z ≡ bits32 z
unfolding bits32
bits_are (pos n) h = refl
bits_are (negsuc k) h = omega (arith, h.sfits)

-- a number read back from its bits, from what a call gives with its result (`.ok`)
pub back32 : (z : ℤ) → mag z < 2 ^ 31 → to_z w32 (of_z w32 z) ≡ z
back32 z h = to_z-of_z {w = w32} (record { sfits = h })

-- the 32 bits of z, read as signed, are z; and 32 bits read as signed are again these bits
pub signed_bits : (z : ℤ) → mag z < 2147483648 → signed32 (bits32 z) ≡ z
unfolding bits32
signed_bits (pos n) h = signed_low n h
signed_bits (negsuc k) h = signed_high (4294967295 - k) (omega arith) ∙ ap negsuc (omega arith)

pub bits_signed : (n : ℕ) → n < 4294967296 → bits32 (signed32 n) ≡ n
unfolding bits32
bits_signed n h = by (dec_lt n 2147483648)
  where
    by : Dec (n < 2147483648) → bits32 (signed32 n) ≡ n
    by (yes l) = rw (signed_low n l)
    by (no g) = rw (signed_high n (omega arith)) (omega arith)

pub signed_small : (n : ℕ) → n < 4294967296 → mag (signed32 n) < 2147483648
signed_small n h = by (dec_lt n 2147483648)
  where
    by : Dec (n < 2147483648) → mag (signed32 n) < 2147483648
    by (yes l) = rw (signed_low n l) l
    by (no g) = rw (signed_high n (omega arith)) (omega arith)

-- ---- what is written is read again

pub read_le16 : (v : ℕ) → u16_at (le16 v) 0 ≡ v
unfolding le16
read_le16 v = omega arith

pub read_le32 : (v : ℕ) → u32_at (le32 v) 0 ≡ v
unfolding le32
read_le32 v = omega arith

-- a number at k in a run is the number at at + k in the buffer
pub u16_in : (b : List ℕ) (at : ℕ) (vs : List ℕ) (k : ℕ) → at + length vs ≤ length b → k + 2 ≤ length vs → u16_at (put b at vs) (at + k) ≡ u16_at vs k
u16_in b at vs k h l = cc (put_at b at vs k h (omega arith), put_at b at vs (k + 1) h (omega arith), add_assoc at k 1)

pub u32_in : (b : List ℕ) (at : ℕ) (vs : List ℕ) (k : ℕ) → at + length vs ≤ length b → k + 4 ≤ length vs → u32_at (put b at vs) (at + k) ≡ u32_at vs k
u32_in b at vs k h l =
    cc (u16_in b at vs k h (omega arith), u16_in b at vs (k + 2) h (omega arith), add_assoc at k 2)

-- ---- lengths

pub length_le16 : (v : ℕ) → length (le16 v) ≡ 2
unfolding le16
length_le16 v = refl

pub length_le32 : (v : ℕ) → length (le32 v) ≡ 4
unfolding le32
length_le32 v = refl

pub length_rec : (kind op a b c : ℕ) → length (rec_bytes kind op a b c) ≡ 8
unfolding rec_bytes
length_rec kind op a b c = refl

pub length_header : (mark : List ℕ) (n : ℕ) → length mark ≡ 4 → length (header mark n) ≡ 8
unfolding header le16
length_header mark n e = simp length-append (omega arith)

-- ---- a number, written at a place, is read again there

pub u16_again : (b : List ℕ) (at v : ℕ) → at + 2 ≤ length b → u16_at (put b at (le16 v)) at ≡ v
u16_again b at v h =
    let l : length (le16 v) ≡ 2 = length_le16 v in
    let e : u16_at (put b at (le16 v)) (at + 0) ≡ u16_at (le16 v) 0 = u16_in b at (le16 v) 0 (omega arith) (omega arith) in
    subst (λ (k : ℕ). u16_at (put b at (le16 v)) k ≡ v) (add-zero at) (e ∙ read_le16 v)

pub u32_again : (b : List ℕ) (at v : ℕ) → at + 4 ≤ length b → u32_at (put b at (le32 v)) at ≡ v
u32_again b at v h =
    let l : length (le32 v) ≡ 4 = length_le32 v in
    let e : u32_at (put b at (le32 v)) (at + 0) ≡ u32_at (le32 v) 0 = u32_in b at (le32 v) 0 (omega arith) (omega arith) in
    subst (λ (k : ℕ). u32_at (put b at (le32 v)) k ≡ v) (add-zero at) (e ∙ read_le32 v)

pub i32_again : (b : List ℕ) (at : ℕ) (z : ℤ) → at + 4 ≤ length b → mag z < 2147483648 → i32_at (put b at (le32 (bits32 z))) at ≡ z
unfolding i32_at
i32_again b at z h f = ap signed32 (u32_again b at (bits32 z) h) ∙ signed_bits z f

-- ---- a record

-- the fields of a record's bytes, wherever they stand in a buffer
pub record Again (f : List ℕ) (at kind op a b c : ℕ) : Type 0 where
  pub kind_is : get_or f at 0 ≡ kind
  pub op_is : get_or f (at + 1) 0 ≡ op
  pub a_is : u16_at f (at + 2) ≡ a
  pub b_is : u16_at f (at + 4) ≡ b
  pub c_is : u16_at f (at + 6) ≡ c

pub rec_again : (o : List ℕ) (at kind op a b c : ℕ) → at + 8 ≤ length o → Again (put o at (rec_bytes kind op a b c)) at kind op a b c
unfolding rec_bytes
rec_again o at kind op a b c h = record {
  kind_is = rw (add-zero at) at (put_at o at (rec_bytes kind op a b c) 0 h (omega arith));
  op_is = put_at o at (rec_bytes kind op a b c) 1 h (omega arith);
  a_is = u16_in o at (rec_bytes kind op a b c) 2 h (omega arith) ∙ omega arith;
  b_is = u16_in o at (rec_bytes kind op a b c) 4 h (omega arith) ∙ omega arith;
  c_is = u16_in o at (rec_bytes kind op a b c) 6 h (omega arith) ∙ omega arith;
}

-- record i, written at its place, is read again
pub rec_at_again : (o : List ℕ) (i : ℕ) (r : Record) → 8 + 8 * i + 8 ≤ length o
    → rec_at (put o (8 + 8 * i) (rec_bytes r.kind r.op r.a r.b r.c)) i ≡ r
unfolding rec_at
rec_at_again o i r h =
    let w : Again (put o (8 + 8 * i) (rec_bytes r.kind r.op r.a r.b r.c)) (8 + 8 * i) r.kind r.op r.a r.b r.c =
    rec_again o (8 + 8 * i) r.kind r.op r.a r.b r.c h
    in
    λ k. record { kind = w.kind_is k; op = w.op_is k; a = w.a_is k; b = w.b_is k; c = w.c_is k }

-- a number elsewhere than what was written is what it was
pub u16_before : (o : List ℕ) (at : ℕ) (xs : List ℕ) (k : ℕ) → k + 2 ≤ at → u16_at (put o at xs) k ≡ u16_at o k
u16_before o at xs k h = cc (put_before o at xs k (omega arith), put_before o at xs (k + 1) (omega arith))

pub u16_after : (o : List ℕ) (at : ℕ) (xs : List ℕ) (k : ℕ) → at + length xs ≤ k → u16_at (put o at xs) k ≡ u16_at o k
u16_after o at xs k h = cc (put_after o at xs k h, put_after o at xs (k + 1) (omega arith))

-- room for a record is room for eight bytes, and the place after a record is eight further
pub room_rec : {o : List ℕ} {at : ℕ} (kind op a b c : ℕ) → Room o at (rec_bytes kind op a b c) → at + 8 ≤ length o
room_rec kind op a b c r = omega (arith, r.within, length_rec kind op a b c)

pub rec_next : {o : List ℕ} {at : ℕ} {o₁ : List ℕ} {r₁ : ℕ} (kind op a b c : ℕ) → Wrote o at (rec_bytes kind op a b c) o₁ r₁ → r₁ ≡ at + 8
rec_next kind op a b c w = omega (arith, w.next_is, length_rec kind op a b c)

-- ---- the mark and the header

-- a list of four is its four bytes
pub four : (m : List ℕ) → length m ≡ 4 → m ≡ get_or m 0 0 ∷ get_or m 1 0 ∷ get_or m 2 0 ∷ get_or m 3 0 ∷ []
four [] e = absurd (omega arith)
four (a ∷ []) e = absurd (omega arith)
four (a ∷ b ∷ []) e = absurd (omega arith)
four (a ∷ b ∷ c ∷ []) e = absurd (omega arith)
four (a ∷ b ∷ c ∷ d ∷ []) e = refl
four (a ∷ b ∷ c ∷ d ∷ x ∷ xs) e = absurd (omega arith)

pub header_four : (m : List ℕ) (n : ℕ) → length m ≡ 4
    → header m n ≡ get_or m 0 0 ∷ get_or m 1 0 ∷ get_or m 2 0 ∷ get_or m 3 0 ∷ 1 ∷ 0 ∷ n % 256 ∷ n / 256 ∷ []
unfolding header le16
header_four m n e = ap (λ (l : List ℕ). l ++ (1 ∷ 0 ∷ n % 256 ∷ n / 256 ∷ [])) (four m e)

-- the library's test
eqb_swap : (x y : ℕ) → eqb x y ≡ eqb y x
eqb_swap x y = go (eqb x y) refl
  where
    go : (t : Bool) → eqb x y ≡ t → eqb x y ≡ eqb y x
    go true e = e ∙ sym (eq-eqb y x (sym (eqb-true x y e)))
    go false e = e ∙ sym (ne_eqb y x (λ q. subst T (sym (eq-eqb x y (sym q)) ∙ e) tt))

pub starts_is : (m b : List ℕ) → starts_with eqb b m ≡ starts m b
starts_is [] b = refl
starts_is (x ∷ m) [] = refl
starts_is (x ∷ m) (y ∷ b) = rw (starts_is m b, eqb_swap x y) refl

-- a list begins with what was put before it
pub starts_append : (m b : List ℕ) → starts m (m ++ b) ≡ true
starts_append [] b = refl
starts_append (x ∷ m) b = rw (eq-eqb x x refl, starts_append m b)

pub header_starts : (m : List ℕ) (n : ℕ) (b : List ℕ) → starts m (header m n ++ b) ≡ true
unfolding header
header_starts m n b = rw append_assoc (starts_append m ((le16 1 ++ le16 n) ++ b))

-- what a header that passes the test has: eight bytes, the mark, version 1; and what has these passes
pub headed_long : (m b : List ℕ) → headed m b ≡ true → 8 ≤ length b
unfolding headed
headed_long m b e = leb-true 8 (length b) (and_left _ _ e)

pub headed_mark : (m b : List ℕ) → headed m b ≡ true → starts m b ≡ true
unfolding headed
headed_mark m b e = and_left (starts m b) _ (and_right (leb 8 (length b)) _ e)

pub headed_version : (m b : List ℕ) → headed m b ≡ true → u16_at b 4 ≡ 1
unfolding headed
headed_version m b e = eqb-true _ _ (and_right (starts m b) _ (and_right (leb 8 (length b)) _ e))

pub headed_yes : (m b : List ℕ) → 8 ≤ length b → starts m b ≡ true → u16_at b 4 ≡ 1 → headed m b ≡ true
unfolding headed
headed_yes m b h p q = rw (le-leb 8 (length b) h, p, eq-eqb _ _ q)

-- a file that begins with a header opens with its mark, and its count is read again
pub header_count : (m : List ℕ) (n : ℕ) (b : List ℕ) → length m ≡ 4 → count_at (header m n ++ b) ≡ n
header_count m n b e = rw (header_four m n e) (omega arith)

pub header_headed : (m : List ℕ) (n : ℕ) (b : List ℕ) → length m ≡ 4 → headed m (header m n ++ b) ≡ true
header_headed m n b e =
    headed_yes m (header m n ++ b)
    (simp length-append (omega (arith, length_header m n e)))
    (header_starts m n b)
    (rw (header_four m n e) (omega arith))
