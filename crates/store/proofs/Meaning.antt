-- What the check's answer means: every table of an accepted store, with all of its rows, stands inside the store's bytes.
-- Assumes nothing.
use Prim.Native.Nat.{ℕ, zero, suc, ◌+◌, ◌-◌, ◌*◌, ◌<◌, ◌≤◌}
use mathlib.Core.Path.{◌≡◌, refl, sym, ap, ◌∙◌}
use mathlib.Core.Bool.{Bool, true, false, cond, ◌&&◌, and-eq-true_iff}
use mathlib.Core.List.{List}
use native.Mathlib.Omega.{arith}
use borrow.Author.Tests.{leb-true, eqb-true, eq-eqb}
use lib.ListN.{length}
use lib.Dec.{eqb, leb}
use Rattle.word.specs.Bytes.{u16_at}
use Rattle.word.specs.Header.{drs, headed, count_at}
use Rattle.word.specs.Record.{kind_at}
use Rattle.catalogue.specs.Fault as fault
use Rattle.word.specs.Refusal.{Checked, fine, refusal, and_then, said}
use Rattle.word.specs.declared.refusal.Refusal.{Refusal}
use Rattle.std.specs.Prelude.{Result, Ok}
use Rattle.store.specs.Layout.{row_size, place_after, place_of, end_from, fault_from, verdict_by, check_of, files_of}

module _ (c : List ℕ) (n : ℕ) (s : List ℕ) where
  pub after_more : (i at : ℕ) → at ≤ place_after c n s i at
  unfolding place_after
  after_more i at = go (eqb (kind_at c i) 1)
    where
      go : (b : Bool) → at ≤ cond b (at + 2 + u16_at s at * row_size c n i) at
      go true = omega arith
      go false = omega arith

  end_more : (k i at : ℕ) → at ≤ end_from c n s k i at
  unfolding end_from
  end_more zero i at = omega arith
  end_more (suc k) i at = omega (arith, after_more i at, end_more k (i + 1) (place_after c n s i at))

  end_of : (k i : ℕ) → end_from c n s k i (place_of c n s i) ≡ place_of c n s (i + k)
  unfolding end_from place_of
  end_of zero i = let z : i + zero ≡ i = omega arith in rw z
  end_of (suc k) i =
      let y : i + 1 ≡ suc i = omega arith in
      let z : suc i + k ≡ i + suc k = omega arith in
      rw y (end_of k (suc i) ∙ ap (place_of c n s) z)

  pub end_place : end_from c n s n 0 8 ≡ place_of c n s n
  unfolding place_of
  end_place = let z : 0 + n ≡ n = omega arith in end_of n 0 ∙ ap (place_of c n s) z

  place_up : (k i : ℕ) → place_of c n s i ≤ place_of c n s (i + k)
  place_up k i = rw (← end_of k i) (end_more k i (place_of c n s i))

  pub place_after_8 : (i : ℕ) → 8 ≤ place_of c n s i
  unfolding place_of
  place_after_8 zero = omega arith
  place_after_8 (suc i) = omega (arith, place_after_8 i, after_more i (place_of c n s i))

  pub place_below : (i : ℕ) → i ≤ n → place_of c n s i ≤ end_from c n s n 0 8
  place_below i h =
      let y : i + (n - i) ≡ n = omega arith in
      omega (arith, place_up (n - i) i, end_place, ap (place_of c n s) y)

  -- a table with all of its rows stands before the end
  pub table_inside : (i : ℕ) → i < n → kind_at c i ≡ 1 → place_of c n s i + 2 + u16_at s (place_of c n s i) * row_size c n i ≤ end_from c n s n 0 8
  unfolding place_of place_after
  table_inside i h e =
      let z : place_of c n s (suc i) ≡ place_of c n s i + 2 + u16_at s (place_of c n s i) * row_size c n i = rw (eq-eqb _ _ e) in
      omega (arith, z, place_below (suc i) h)

-- what a pass over an accepted store starts from
pub record Accepted (c : List ℕ) (n t : ℕ) (s : List ℕ) : Type 0 where
  pub short_enough : length s ≤ 65528
  pub tables : count_at s ≡ t
  pub ends : end_from c n s n 0 8 ≡ length s
  pub no_fault : fault_from c n s n 0 8 ≡ 0

pub accepted : (c : List ℕ) (n t : ℕ) (s : List ℕ) → check_of c n t s ≡ fine tt → Accepted c n t s
unfolding check_of verdict_by
accepted c n t s e = go (headed drs s) ((leb (length s) 65528 && eqb (count_at s) t) && eqb (end_from c n s n 0 8) (length s)) (eqb (fault_from c n s n 0 8) 0) refl refl e
  where
    go : (a b d : Bool) → ((leb (length s) 65528 && eqb (count_at s) t) && eqb (end_from c n s n 0 8) (length s)) ≡ b → eqb (fault_from c n s n 0 8) 0 ≡ d → cond a (cond b (cond d (fine (tt {0})) (refusal 33 (fault_from c n s n 0 8))) (refusal 32 0)) (refusal 31 0) ≡ fine tt → Accepted c n t s
    go false b d q p w = absurd (let h : ◌≡◌ {A = ℕ} 0 1 = cc in omega arith)
    go true false d q p w = absurd (let h : ◌≡◌ {A = ℕ} 0 1 = cc in omega arith)
    go true true false q p w = absurd (let h : ◌≡◌ {A = ℕ} 0 1 = cc in omega arith)
    go true true true q p w =
        let (l, m) = (and-eq-true_iff (leb (length s) 65528 && eqb (count_at s) t) (eqb (end_from c n s n 0 8) (length s))).0 q in
        let (x, y) = (and-eq-true_iff (leb (length s) 65528) (eqb (count_at s) t)).0 l in
        record {
          short_enough = leb-true (length s) 65528 x;
          tables = eqb-true (count_at s) t y;
          ends = eqb-true _ _ m;
          no_fault = eqb-true _ _ p;
        }

-- both files accepted: the catalogue has so many tables, and the store is fine over them
pub files_elim : (c s : List ℕ) {G : Type 0} → files_of c s ≡ fine tt → ((t : ℕ) → fault.check_of c ≡ fine t → check_of c (count_at c) t s ≡ fine tt → G) → G
unfolding files_of
files_elim c s {G} e k = go (fault.check_of c) refl e
  where
    go : (v : Checked ℕ) → fault.check_of c ≡ v → and_then v (λ t. check_of c (count_at c) t s) ≡ fine tt → G
    go (fine t) f w = k t f w
    go (refusal number place) f w = cc

-- what an accepted store's end is, from the check's answer
pub taken_end : (c : List ℕ) (n t : ℕ) (s : List ℕ) (v : Result (Unit {0}) Refusal) → said v ≡ check_of c n t s → v ≡ Ok tt → end_from c n s n 0 8 ≤ 65528
taken_end c n t s v e f = let a = accepted c n t s (sym e ∙ ap said f) in omega (arith, a.ends, a.short_enough)
