-- Stores, one behind the other; a limb's mark before and behind a run; and the loop over a block's TABLE records.
-- Assumes nothing.
use Prim.Native.Nat.{ℕ, zero, suc, ◌+◌, ◌*◌, ◌%◌, ◌<◌, ◌≤◌}
use mathlib.Core.Path.{◌≡◌, refl, sym, ap, ◌∙◌}
use mathlib.Core.Bool.{Bool, true, false, cond}
use mathlib.Core.List.{List, [], ◌∷◌, ◌++◌, map}
use native.Mathlib.Omega.{arith}
use native.Mathlib.Numerals.{add-one}
use native.Mathlib.Decide.{dec_lt}
use lib.ListN.{length, get_or, set, drop, length-map, drop_of_length-le}
use lib.Seq.{drop-cons, set_out, set-set, set_comm, get_or-set_same}
use Rattle.std.specs.Prelude.{Option, Some, None}
use Rattle.word.specs.Buffer.{put}
use Rattle.word.proofs.Writing.{put_append, put_nil, length_put, put_before}
use Rattle.cell.specs.Res.{done, nth}
use Rattle.cell.specs.Types.{digits_of, scale_of, same_type}
use Rattle.cell.specs.declared.Type.{«Type» as Ty}
use Rattle.catalogue.specs.Tables.{TabRef, tables_from, table_named}
use Rattle.catalogue.specs.Starts.{ref_of}
use Rattle.view.specs.Record.{node_at}
use Rattle.view.specs.Parse.{name_of, names_at}
use Rattle.scope.specs.Blocks.{all, refs_of, tables_named}
use Rattle.scope.proofs.Named.{names_length, number_again}
use Rattle.resolve.specs.Notes.{marked, numbers_at, marked_at}
use Rattle.resolve.specs.Claims.{Tabled}

-- ---- stores

-- past the end nothing is stored
pub dropped : (o : List ℕ) (at w : ℕ) → length o ≤ at → o ≡ set o at w
dropped o at w h = sym (set_out o at w h)

-- one store, then a run behind it; the other way round
pub put_cons : (o : List ℕ) (at w : ℕ) (ws : List ℕ) → put (set o at w) (at + 1) ws ≡ put o at (w ∷ ws)
unfolding put
put_cons o at w ws = ap (λ (j : ℕ). put (set o at w) j ws) (add-one at)

set_put : (o : List ℕ) (i j x : ℕ) (ys : List ℕ) → i < j → set (put o j ys) i x ≡ put (set o i x) j ys
unfolding put
set_put o i j x [] h = refl
set_put o i j x (y ∷ ys) h =
    let z : (j ≡ i → ⊥) = omega arith in
    set_put (set o j y) i (suc j) x ys (omega arith) ∙ ap (λ (l : List ℕ). put l (suc j) ys) (set_comm o j i y x z)

pub put_last : (o : List ℕ) (at w : ℕ) (ws : List ℕ) → set (put o (at + 1) ws) at w ≡ put o at (w ∷ ws)
put_last o at w ws = set_put o at (at + 1) w ws (omega arith) ∙ put_cons o at w ws

-- two runs, one behind the other
pub chain : (o : List ℕ) (at : ℕ) (ws : List ℕ) (o₁ : List ℕ) (m : ℕ) (vs o₂ : List ℕ) → o₁ ≡ put o at ws → o₂ ≡ put o₁ m vs → m ≡ at + length ws → o₂ ≡ put o at (ws ++ vs)
chain o at ws o₁ m vs o₂ a b e =
    b ∙ ap (λ (l : List ℕ). put l m vs) a ∙ ap (λ (j : ℕ). put (put o at ws) j vs) e ∙ put_append o at ws vs

-- a mark on a run's first note; a mark before a run
marked_put : (o : List ℕ) (at m : ℕ) (ws : List ℕ) → 0 < length ws
    → set (put o at ws) at (get_or (put o at ws) at 0 % 72057594037927936 + 72057594037927936 * m) ≡ put o at (marked m ws)
unfolding put marked
marked_put o at m [] z = absurd (omega arith)
marked_put o at m (w ∷ ws) z = go (dec_lt at (length o))
  where
    go : Dec (at < length o) → set (put (set o at w) (suc at) ws) at (get_or (put (set o at w) (suc at) ws) at 0 % 72057594037927936 + 72057594037927936 * m)
        ≡ put (set o at (w % 72057594037927936 + 72057594037927936 * m)) (suc at) ws
    go (yes h) =
        let e : get_or (put (set o at w) (suc at) ws) at 0 ≡ w = put_before (set o at w) (suc at) ws at (omega arith) ∙ get_or-set_same o at w 0 h in
        ap (λ (x : ℕ). set (put (set o at w) (suc at) ws) at (x % 72057594037927936 + 72057594037927936 * m)) e
        ∙ set_put (set o at w) at (suc at) (w % 72057594037927936 + 72057594037927936 * m) ws (omega arith)
        ∙ ap (λ (l : List ℕ). put l (suc at) ws) (set-set o at w (w % 72057594037927936 + 72057594037927936 * m))
    go (no h) =
        let l : length o ≤ at = omega arith in
        let k : length (put o (suc at) ws) ≤ at = omega (arith, length_put o (suc at) ws) in
        rw (set_out o at w l, set_out o at (w % 72057594037927936 + 72057594037927936 * m) l) (set_out (put o (suc at) ws) at _ k)

-- the notes of a limb of type s that is brought to t
abbrev pub limb_notes : Ty → Ty → List ℕ → List ℕ
limb_notes s t ws = cond (same_type s t) ws (marked ((16 * digits_of t + scale_of t) % 256) ws)

pub mark_put : (o : List ℕ) (at : ℕ) (s t : Ty) (ws : List ℕ) → 0 < length ws → marked_at (put o at ws) at s t ≡ put o at (limb_notes s t ws)
unfolding marked_at
mark_put o at s t ws z = go (same_type s t)
  where
    go : (b : Bool) → cond b (put o at ws) (set (put o at ws) at (get_or (put o at ws) at 0 % 72057594037927936 + 72057594037927936 * ((16 * digits_of t + scale_of t) % 256)))
        ≡ put o at (cond b ws (marked ((16 * digits_of t + scale_of t) % 256) ws))
    go true = refl
    go false = marked_put o at ((16 * digits_of t + scale_of t) % 256) ws z

pub mark_before : (o : List ℕ) (i j : ℕ) (s t : Ty) (ws : List ℕ) → i < j → marked_at (put o j ws) i s t ≡ put (marked_at o i s t) j ws
unfolding marked_at
mark_before o i j s t ws h = go (same_type s t)
  where
    go : (b : Bool) → cond b (put o j ws) (set (put o j ws) i (get_or (put o j ws) i 0 % 72057594037927936 + 72057594037927936 * ((16 * digits_of t + scale_of t) % 256)))
        ≡ put (cond b o (set o i (get_or o i 0 % 72057594037927936 + 72057594037927936 * ((16 * digits_of t + scale_of t) % 256)))) j ws
    go true = refl
    go false =
        ap (λ (x : ℕ). set (put o j ws) i (x % 72057594037927936 + 72057594037927936 * ((16 * digits_of t + scale_of t) % 256))) (put_before o j ws i h)
        ∙ set_put o i j _ ws h

pub length_marked : (m : ℕ) (ws : List ℕ) → length (marked m ws) ≡ length ws
unfolding marked
length_marked m [] = refl
length_marked m (w ∷ ws) = refl

pub length_limb : (s t : Ty) (ws : List ℕ) → length (limb_notes s t ws) ≡ length ws
length_limb s t ws = go (same_type s t)
  where
    go : (b : Bool) → length (cond b ws (marked ((16 * digits_of t + scale_of t) % 256) ws)) ≡ length ws
    go true = refl
    go false = length_marked _ ws

-- ---- the notes of TABLE records, a loop

number_at : (ts : List TabRef) (j : ℕ) → j < length ts → (t : TabRef) × (nth ts j ≡ done t) × (get_or (map (λ (u : TabRef). u.num) ts) j 0 ≡ t.num)
unfolding nth
number_at [] j h = absurd (omega arith)
number_at (t ∷ ts) zero h = (t, refl, refl)
number_at (t ∷ ts) (suc j) h = number_at ts j (omega arith)

-- after j tables: what is left of the numbers, from record at + j on, comes to all of them, from `at` on
pub record Numbered (c : List ℕ) (n : ℕ) (v : List ℕ) (at count : ℕ) (o₀ o : List ℕ) (j : ℕ) : Type 0 where
  pub few : j ≤ count
  pub todo : put o (at + j) (drop j (numbers_at c n v at count)) ≡ put o₀ at (numbers_at c n v at count)

-- there are as many numbers as TABLE records
pub numbers_length : (c : List ℕ) (n : ℕ) (v : List ℕ) (at count : ℕ) (ts : List TabRef) → tables_named (tables_from c n n 0) (names_at v at count) ≡ all ts → length (numbers_at c n v at count) ≡ count
unfolding numbers_at refs_of
numbers_length c n v at count ts e = rw e (length-map ts _ ∙ names_length (tables_from c n n 0) v at count ts e)

module _ (c : List ℕ) (n : ℕ) (ss : List ℕ) (tables : ℕ) (v : List ℕ) (at count : ℕ) (w : Tabled c n ss tables v at count) (o₀ o : List ℕ) (j : ℕ) (l : Numbered c n v at count o₀ o j) where
  -- the table of the next TABLE record is there
  next_is : (r : Option ℕ) → j < count → table_named (name_of (node_at v (at + j))) (tables_from c n n 0) ≡ ref_of c n ss r
      → (t : TabRef) × (r ≡ Some t.num) × (drop j (numbers_at c n v at count) ≡ t.num ∷ drop (suc j) (numbers_at c n v at count))
  unfolding numbers_at
  next_is r h e =
      let ts = refs_of (tables_named (tables_from c n n 0) (names_at v at count)) in
      let m = names_length (tables_from c n n 0) v at count ts w.found in
      let p = number_at ts j (omega (arith, m)) in
      let q : r ≡ Some p.0.num = number_again c n tables ss v at count ts p.0 j (at + j) r w.found h p.1 refl e in
      let z : j < length (map (λ (u : TabRef). u.num) ts) = omega (arith, m, length-map ts (λ (u : TabRef). u.num)) in
      (p.0, q, drop-cons (map (λ (u : TabRef). u.num) ts) j 0 z ∙ ap (λ (x : ℕ). x ∷ drop (suc j) (map (λ (u : TabRef). u.num) ts)) p.2)

  pub numbers_there : j < count → table_named (name_of (node_at v (at + j))) (tables_from c n n 0) ≡ ref_of c n ss None → ⊥
  numbers_there h e = let p = next_is None h e in let z : ◌≡◌ {A = Option ℕ} None (Some p.0.num) = p.1 in absurd (let q : ◌≡◌ {A = ℕ} 0 1 = cc in omega arith)

  pub numbers_again : (k : ℕ) (o₁ : List ℕ) → j < count → table_named (name_of (node_at v (at + j))) (tables_from c n n 0) ≡ ref_of c n ss (Some k)
      → o₁ ≡ set o (at + j) k → Numbered c n v at count o₀ o₁ (j + 1)
  unfolding put
  numbers_again k o₁ h e f =
      let a : at + (j + 1) ≡ suc (at + j) = omega arith in
      let p = next_is (Some k) h e in
      let q : k ≡ p.0.num = (let x : Some k ≡ Some p.0.num = p.1 in cc) in
      record {
        few = omega arith;
        todo = rw (f, q, a, add-one j) (ap (put o (at + j)) (sym p.2) ∙ l.todo);
      }

  pub numbers_done : count ≤ j → o ≡ put o₀ at (numbers_at c n v at count)
  numbers_done h =
      let m = numbers_length c n v at count _ w.found in
      let z : length (numbers_at c n v at count) ≤ j = omega (arith, m) in
      sym (put_nil o (at + j)) ∙ ap (put o (at + j)) (sym (drop_of_length-le (numbers_at c n v at count) z)) ∙ l.todo
