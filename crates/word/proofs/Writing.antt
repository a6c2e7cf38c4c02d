-- Laws of a run of stores: runs compose, the length stays, what was written is read again and nothing else changes; and laws of writers.
-- None asks that the run is within the buffer, but `put_eq` and `put_at`.
-- Assumes nothing.
use mathlib.Core.Path.{◌≡◌, refl, sym, ap, subst, ◌∙◌}
use mathlib.Core.List.{List, [], ◌∷◌, ◌++◌, append_assoc}
use Prim.Native.Nat.{ℕ, suc, ◌+◌, ◌-◌, ◌≤◌, ◌<◌}
use native.Mathlib.Omega.{arith}
use native.Mathlib.Nat.{add-zero}
use lib.ListN.{length, get_or, set, take, drop, length-set, length-append, get_or-append}
use lib.Seq.{sets, sets-eq, get_or-set_other, length-take-le, get_or-append-add}
use borrow.Rule.Slice.PartMut.{put_mid, Post-is}
use Rattle.word.specs.declared.writer.Writer.{Writer}
use Rattle.word.specs.Writer.{Writes}
use Rattle.word.specs.Buffer.{put, Wrote, Room}

-- ---- a run of stores

-- two runs, the second from where the first ends, are one
pub put_append : (o : List ℕ) (i : ℕ) (xs ys : List ℕ) → put (put o i xs) (i + length xs) ys ≡ put o i (xs ++ ys)
unfolding put
put_append o i [] ys = ap (λ (j : ℕ). put o j ys) (add-zero i)
put_append o i (x ∷ xs) ys =
    let e : i + suc (length xs) ≡ suc i + length xs = omega arith in
    ap (λ (j : ℕ). put (put (set o i x) (suc i) xs) j ys) e ∙ put_append (set o i x) (suc i) xs ys

-- nothing stored, one byte stored
pub put_nil : (o : List ℕ) (i : ℕ) → put o i [] ≡ o
unfolding put
put_nil o i = refl

pub put_one : (o : List ℕ) (i x : ℕ) → put o i (x ∷ []) ≡ set o i x
unfolding put
put_one o i x = refl

-- the length stays
pub length_put : (o : List ℕ) (i : ℕ) (xs : List ℕ) → length (put o i xs) ≡ length o
unfolding put
length_put o i [] = refl
length_put o i (x ∷ xs) = length_put (set o i x) (suc i) xs ∙ length-set o i x

put_sets : (o : List ℕ) (i : ℕ) (xs : List ℕ) → put o i xs ≡ sets o i xs
unfolding put
put_sets o i [] = refl
put_sets o i (x ∷ xs) = put_sets (set o i x) (suc i) xs

-- what the buffer is, where the run is within it: what was before, the bytes, what was after
pub put_eq : (o : List ℕ) (i : ℕ) (xs : List ℕ) → i + length xs ≤ length o → put o i xs ≡ take i o ++ xs ++ drop (i + length xs) o
put_eq o i xs h = put_sets o i xs ∙ sets-eq xs o i h

-- from the start: the bytes, and what was after
pub put_start : (o xs : List ℕ) → length xs ≤ length o → put o 0 xs ≡ xs ++ drop (length xs) o
put_start o xs h =
    let e : 0 + length xs ≡ length xs = omega arith in
    put_eq o 0 xs (omega arith) ∙ ap (λ (n : ℕ). xs ++ drop n o) e

-- byte k of the run; a byte before it; a byte after it
pub put_at : (o : List ℕ) (i : ℕ) (xs : List ℕ) (k : ℕ) → i + length xs ≤ length o → k < length xs → get_or (put o i xs) (i + k) 0 ≡ get_or xs k 0
put_at o i xs k h l =
    let e : length (take i o) ≡ i = length-take-le i o (omega arith) in
    rw (put_eq o i xs h, append_assoc)
    (subst (λ (n : ℕ). get_or (take i o ++ (xs ++ drop (i + length xs) o)) (n + k) 0 ≡ get_or xs k 0) e
    (get_or-append-add (take i o) (xs ++ drop (i + length xs) o) k 0 ∙ get_or-append xs (drop (i + length xs) o) 0 k l))

pub put_before : (o : List ℕ) (i : ℕ) (xs : List ℕ) (k : ℕ) → k < i → get_or (put o i xs) k 0 ≡ get_or o k 0
unfolding put
put_before o i [] k h = refl
put_before o i (x ∷ xs) k h = put_before (set o i x) (suc i) xs k (omega arith) ∙ get_or-set_other o i k x 0 (λ e. omega arith)

pub put_after : (o : List ℕ) (i : ℕ) (xs : List ℕ) (k : ℕ) → i + length xs ≤ k → get_or (put o i xs) k 0 ≡ get_or o k 0
unfolding put
put_after o i [] k h = refl
put_after o i (x ∷ xs) k h = put_after (set o i x) (suc i) xs k (omega arith) ∙ get_or-set_other o i k x 0 (λ e. omega arith)

-- ---- writers

-- one writer after another
pub then : {o : List ℕ} {at : ℕ} {xs : List ℕ} {o₁ : List ℕ} {r₁ : ℕ} {ys : List ℕ} {o₂ : List ℕ} {r₂ : ℕ}
    → Wrote o at xs o₁ r₁ → Wrote o₁ r₁ ys o₂ r₂ → Wrote o at (xs ++ ys) o₂ r₂
then {o} {at} {xs} {o₁} {r₁} {ys} {o₂} {r₂} w v = record {
  now_is = v.now_is ∙ ap (λ (l : List ℕ). put l r₁ ys) w.now_is ∙ ap (λ (j : ℕ). put (put o at xs) j ys) w.next_is ∙ put_append o at xs ys;
  next_is = simp length-append (omega arith);
}

-- the same for what writes by a `Writer`: two writes one after the other are one write of both
pub writes_then : {xs ys : List ℕ} {old between new : Writer} → Writes xs old between → Writes ys between new → Writes (xs ++ ys) old new
writes_then {xs} {ys} {old} {between} {new} w v =
    let whole : Wrote old.out.now old.at (xs ++ ys) new.out.now new.at = then (record { now_is = w.written; next_is = w.place }) (record { now_is = v.written; next_is = v.place }) in
    record { same = v.same ∙ w.same; place = whole.next_is; written = whole.now_is }

-- bytes copied over a part of the buffer
pub wrote_part : {o : List ℕ} {at : ℕ} {xs ys : List ℕ} → at + length xs ≤ length o → ys ≡ xs → Wrote o at xs (put_mid at (at + length xs - at) o ys) (at + length xs)
wrote_part {o} {at} {xs} {ys} h e = record {
  now_is =
      let rest = Post-is at (at + length xs) o (omega arith) in
      rw (e, rest) (sym (append_assoc (take at o) xs (drop (at + length xs) o)) ∙ sym (put_eq o at xs h));
  next_is = refl;
}

-- the same bytes, said otherwise
pub wrote_as : {o : List ℕ} {at : ℕ} {xs ys : List ℕ} {o₁ : List ℕ} {r₁ : ℕ} → xs ≡ ys → Wrote o at xs o₁ r₁ → Wrote o at ys o₁ r₁
wrote_as {o} {at} {xs} {ys} {o₁} {r₁} e w = subst (λ (l : List ℕ). Wrote o at l o₁ r₁) e w

-- the length after a writer
pub kept : {o : List ℕ} {at : ℕ} {xs : List ℕ} {o₁ : List ℕ} {r₁ : ℕ} → Wrote o at xs o₁ r₁ → length o₁ ≡ length o
kept {o} {at} {xs} w = ap length w.now_is ∙ length_put o at xs

-- what a writer did not touch: a byte before the place, a byte after it
pub kept_before : {o : List ℕ} {at : ℕ} {xs : List ℕ} {o₁ : List ℕ} {r₁ : ℕ} (k : ℕ) → Wrote o at xs o₁ r₁ → k < at → get_or o₁ k 0 ≡ get_or o k 0
kept_before {o} {at} {xs} k w h = ap (λ (l : List ℕ). get_or l k 0) w.now_is ∙ put_before o at xs k h

pub kept_after : {o : List ℕ} {at : ℕ} {xs : List ℕ} {o₁ : List ℕ} {r₁ : ℕ} (k : ℕ) → Wrote o at xs o₁ r₁ → r₁ ≤ k → get_or o₁ k 0 ≡ get_or o k 0
kept_after {o} {at} {xs} k w h = ap (λ (l : List ℕ). get_or l k 0) w.now_is ∙ put_after o at xs k (omega (arith, w.next_is))

-- what a writer wrote
pub wrote_at : {o : List ℕ} {at : ℕ} {xs : List ℕ} {o₁ : List ℕ} {r₁ : ℕ} (k : ℕ) → Wrote o at xs o₁ r₁ → at + length xs ≤ length o → k < length xs → get_or o₁ (at + k) 0 ≡ get_or xs k 0
wrote_at {o} {at} {xs} k w h l = ap (λ (z : List ℕ). get_or z (at + k) 0) w.now_is ∙ put_at o at xs k h l

-- two writers of the same bytes end alike: the buffer and the place
pub wrote_same : {o : List ℕ} {at : ℕ} {xs : List ℕ} {o₁ : List ℕ} {r₁ : ℕ} {o₂ : List ℕ} {r₂ : ℕ}
    → Wrote o at xs o₁ r₁ → Wrote o at xs o₂ r₂ → (o₁ ≡ o₂) × (r₁ ≡ r₂)
wrote_same w v = (w.now_is ∙ sym v.now_is, w.next_is ∙ sym v.next_is)

-- room for a run and more: room for the run, and after it room for the rest
pub front : {o : List ℕ} {at : ℕ} {xs : List ℕ} (ys : List ℕ) → Room o at (xs ++ ys) → Room o at xs
front {o} {at} {xs} ys r = record { within = omega (arith, r.within, length-append xs ys) }

pub after : {o : List ℕ} {at : ℕ} {xs : List ℕ} {o₁ : List ℕ} {r₁ : ℕ} {ys : List ℕ} → Wrote o at xs o₁ r₁ → Room o at (xs ++ ys) → Room o₁ r₁ ys
after {o} {at} {xs} {o₁} {r₁} {ys} w r = record { within = omega (arith, r.within, w.next_is, kept w, length-append xs ys) }

-- ---- a loop of writers: what is still to be stored from t on, xs, is the rest of xs₀ from t₀ on

pub record Todo (o : List ℕ) (t : ℕ) (xs : List ℕ) (o₀ : List ℕ) (t₀ : ℕ) (xs₀ : List ℕ) : Type 0 where
  pub comes_to : put o t xs ≡ put o₀ t₀ xs₀
  pub ends_at : t + length xs ≡ t₀ + length xs₀

pub todo_all : (o : List ℕ) (t : ℕ) (xs : List ℕ) → Todo o t xs o t xs
todo_all o t xs = record { comes_to = refl; ends_at = refl }

pub todo_same : {o : List ℕ} {t : ℕ} {xs ys o₀ : List ℕ} {t₀ : ℕ} {xs₀ : List ℕ} → xs ≡ ys → Todo o t xs o₀ t₀ xs₀ → Todo o t ys o₀ t₀ xs₀
todo_same {o} {t} {xs} {ys} {o₀} {t₀} {xs₀} e d = subst (λ (l : List ℕ). Todo o t l o₀ t₀ xs₀) e d

pub todo_less : {o : List ℕ} {t : ℕ} {ys : List ℕ} {o₁ : List ℕ} {t₁ : ℕ} {zs o₀ : List ℕ} {t₀ : ℕ} {xs₀ : List ℕ}
    → Wrote o t ys o₁ t₁ → Todo o t (ys ++ zs) o₀ t₀ xs₀ → Todo o₁ t₁ zs o₀ t₀ xs₀
todo_less {o} {t} {ys} {o₁} {t₁} {zs} w d = record {
  comes_to = ap (λ (l : List ℕ). put l t₁ zs) w.now_is ∙ ap (λ (j : ℕ). put (put o t ys) j zs) w.next_is ∙ put_append o t ys zs ∙ d.comes_to;
  ends_at = omega (arith, w.next_is, d.ends_at, length-append ys zs);
}

pub todo_none : {o : List ℕ} {t : ℕ} {o₀ : List ℕ} {t₀ : ℕ} {xs₀ : List ℕ} → Todo o t [] o₀ t₀ xs₀ → Wrote o₀ t₀ xs₀ o t
unfolding put
todo_none d = record { now_is = d.comes_to; next_is = omega (arith, d.ends_at) }

pub todo_length : {o : List ℕ} {t : ℕ} {xs o₀ : List ℕ} {t₀ : ℕ} {xs₀ : List ℕ} → Todo o t xs o₀ t₀ xs₀ → length o ≡ length o₀
todo_length {o} {t} {xs} {o₀} {t₀} {xs₀} d = sym (length_put o t xs) ∙ ap length d.comes_to ∙ length_put o₀ t₀ xs₀
