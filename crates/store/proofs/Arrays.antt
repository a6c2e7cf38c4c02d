-- The spans of the tables: the array as the code fills it, and what it says of an accepted store.
-- Assumes nothing.
use Prim.Native.Nat.{ℕ, zero, suc, ◌+◌, ◌-◌, ◌*◌, ◌<◌, ◌≤◌}
use mathlib.Core.Path.{◌≡◌, refl, sym, ap, ◌∙◌}
use mathlib.Core.Bool.{Bool, true, false, cond}
use mathlib.Core.List.{List, [], ◌∷◌, ◌++◌, map}
use native.Mathlib.Omega.{arith}
use native.Mathlib.Nat.{suc-mul, mul-le-mul_right}
use native.Mathlib.Numerals.{add-one}
use borrow.Author.Tests.{ne_eqb}
use lib.Dec.{eqb}
use lib.ListN.{length, get_or, set, replicate}
use Rattle.std.proofs.Common.{length-append}
use Rattle.word.specs.Bytes.{u16_at}
use Rattle.word.specs.Record.{kind_at}
use Rattle.word.specs.Refusal.{fine}
use Rattle.word.specs.Header.{count_at}
use Rattle.cell.specs.Res.{done, nth}
use Rattle.catalogue.specs.Fault as fault
use Rattle.catalogue.specs.Starts.{starts_from, starts_of}
use Rattle.catalogue.proofs.Meaning as catalogue
use Rattle.store.specs.Layout.{row_size, place_after, place_of, end_from, check_of, class_rule, cell_rule, cell_place, columns_from, row_fault}
use Rattle.store.specs.Rows.{rows_from, table_rows, tables_rows, store_of}
use Rattle.store.specs.Spans.{span_of, blank, fill, spans_of, IsSpan}
use Rattle.store.specs.declared.places.Span.{Span}
use Rattle.store.proofs.Meaning.{place_below, table_inside, accepted}
use Rattle.store.proofs.Faultless.{table_clean, row_clean, class_clean, cell_clean}

-- ---- a list in an array

module _ {A : Type 0} (d : A) where
  pub fill_none : (m : ℕ) → fill m d [] ≡ replicate m d
  unfolding fill
  fill_none zero = refl
  fill_none (suc m) = ap (λ l. d ∷ l) (fill_none m)

  pub fill_more : (m : ℕ) (xs : List A) (x : A) → length xs < m → set (fill m d xs) (length xs) x ≡ fill m d (xs ++ (x ∷ []))
  unfolding fill
  fill_more zero xs x h = absurd (omega arith)
  fill_more (suc m) [] x h = refl
  fill_more (suc m) (y ∷ ys) x h = ap (λ l. y ∷ l) (fill_more m ys x (omega arith))

  pub fill_full : (m : ℕ) (xs ys : List A) → m ≤ length xs → fill m d (xs ++ ys) ≡ fill m d xs
  unfolding fill
  fill_full zero xs ys h = refl
  fill_full (suc m) [] ys h = absurd (omega arith)
  fill_full (suc m) (x ∷ xs) ys h = ap (λ l. x ∷ l) (fill_full m xs ys (omega arith))

  pub fill_at : (m : ℕ) (xs : List A) (j : ℕ) → j < length xs → j < m → get_or (fill m d xs) j d ≡ get_or xs j d
  unfolding fill
  fill_at zero xs j h l = absurd (omega arith)
  fill_at (suc m) [] j h l = absurd (omega arith)
  fill_at (suc m) (x ∷ xs) zero h l = refl
  fill_at (suc m) (x ∷ xs) (suc j) h l = fill_at m xs j (omega arith) (omega arith)

length-map : {A B : Type 0} (f : A → B) (xs : List A) → length (map f xs) ≡ length xs
length-map f [] = refl
length-map f (x ∷ xs) = ap suc (length-map f xs)

map-append : {A B : Type 0} (f : A → B) (xs ys : List A) → map f (xs ++ ys) ≡ map f xs ++ map f ys
map-append f [] ys = refl
map-append f (x ∷ xs) ys = ap (λ l. f x ∷ l) (map-append f xs ys)

pub get_or-map : {A B : Type 0} (f : A → B) (xs : List A) (j : ℕ) (d : A) (e : B) → j < length xs → get_or (map f xs) j e ≡ f (get_or xs j d)
get_or-map f [] j d e h = absurd (omega arith)
get_or-map f (x ∷ xs) zero d e h = refl
get_or-map f (x ∷ xs) (suc j) d e h = get_or-map f xs j d e (omega arith)

-- ---- the tables' records, one record further

module _ (c : List ℕ) where
  starts_last : (k i : ℕ) → starts_from c (suc k) i ≡ starts_from c k i ++ starts_from c 1 (i + k)
  unfolding starts_from
  starts_last zero i = let e : i + zero ≡ i = omega arith in rw e refl
  starts_last (suc k) i =
      let e : i + 1 + k ≡ i + suc k = omega arith in
      go (eqb (kind_at c i) 1) (rw e at (starts_last k (i + 1)))
    where
      go : (b : Bool) → starts_from c (suc k) (i + 1) ≡ starts_from c k (i + 1) ++ starts_from c 1 (i + suc k)
          → cond b (i ∷ starts_from c (suc k) (i + 1)) (starts_from c (suc k) (i + 1)) ≡ cond b (i ∷ starts_from c k (i + 1)) (starts_from c k (i + 1)) ++ starts_from c 1 (i + suc k)
      go true h = ap (λ l. i ∷ l) h
      go false h = h

  starts_table : (i : ℕ) → kind_at c i ≡ 1 → starts_from c (i + 1) 0 ≡ starts_from c i 0 ++ (i ∷ [])
  unfolding starts_from
  starts_table i e = rw (add-one i) (starts_last i 0 ∙ ap (λ l. starts_from c i 0 ++ l) (one i e))
    where
      one : (i : ℕ) → kind_at c i ≡ 1 → starts_from c 1 (0 + i) ≡ i ∷ []
      one i e = let z : 0 + i ≡ i = omega arith in rw (z, e)

  starts_column : (i : ℕ) → (kind_at c i ≡ 1 → ⊥) → starts_from c (i + 1) 0 ≡ starts_from c i 0
  unfolding starts_from
  starts_column i e = rw (add-one i) (starts_last i 0 ∙ ap (λ l. starts_from c i 0 ++ l) (none i e) ∙ append_nil (starts_from c i 0))
    where
      none : (i : ℕ) → (kind_at c i ≡ 1 → ⊥) → starts_from c 1 (0 + i) ≡ []
      none i e = let z : 0 + i ≡ i = omega arith in rw (z, ne_eqb (kind_at c i) 1 e)

      append_nil : (xs : List ℕ) → xs ++ [] ≡ xs
      append_nil [] = refl
      append_nil (x ∷ xs) = ap (λ l. x ∷ l) (append_nil xs)

-- ---- the array, as the code fills it: the spans of the tables among the first i records, and where record i's table stands

pub record Spanned (c : List ℕ) (n : ℕ) (s : List ℕ) (i tables at : ℕ) (spans : List Span) : Type 0 where
  pub few : tables ≤ i
  pub counted : tables ≡ length (starts_from c i 0)
  pub place : at ≡ place_of c n s i
  pub filled : spans ≡ fill 32 blank (map (span_of c n s) (starts_from c i 0))

module _ (c : List ℕ) (n : ℕ) (s : List ℕ) where
  pub spanned_begin : Spanned c n s 0 0 8 (replicate 32 blank)
  unfolding starts_from place_of
  spanned_begin = record { few = omega arith; counted = refl; place = refl; filled = sym (fill_none blank 32) }

  module _ (i t at : ℕ) (ss : List Span) (h : Spanned c n s i t at ss) where
    pub spanned_short : i < n → end_from c n s n 0 8 ≤ 65528 → at ≤ 65528
    spanned_short l e = omega (arith, h.place, place_below c n s i (omega arith))

    spanned_place : (q : ℕ) → q ≡ place_after c n s i at → q ≡ place_of c n s (i + 1)
    unfolding place_of
    spanned_place q e = rw (add-one i) (e ∙ ap (place_after c n s i) h.place)

    count : t ≡ length (map (span_of c n s) (starts_from c i 0))
    count = h.counted ∙ sym (length-map (span_of c n s) (starts_from c i 0))

    set_last : t < 32 → set ss t (span_of c n s i) ≡ fill 32 blank (map (span_of c n s) (starts_from c i 0) ++ (span_of c n s i ∷ []))
    set_last l =
        let short : length (map (span_of c n s) (starts_from c i 0)) < 32 = omega (arith, l, count) in
        ap (λ (l : List Span). set l t (span_of c n s i)) h.filled ∙ ap (λ (m : ℕ). set (fill 32 blank (map (span_of c n s) (starts_from c i 0))) m (span_of c n s i)) count
        ∙ fill_more blank 32 (map (span_of c n s) (starts_from c i 0)) (span_of c n s i) short

    module _ {t' at' : ℕ} {ss' : List Span} (p : at' ≡ place_after c n s i at) where
      pub spanned_here : kind_at c i ≡ 1 → t < 32 → (rows size : ℕ) → rows ≡ u16_at s at → size ≡ row_size c n i → ss' ≡ set ss t (record { first = at + 2; rows = rows; size = size }) → t' ≡ t + 1 → Spanned c n s (i + 1) t' at' ss'
      unfolding span_of
      spanned_here k l rows size er es e f =
          let z : starts_from c (i + 1) 0 ≡ starts_from c i 0 ++ (i ∷ []) = starts_table c i k in
          record {
            few = omega (arith, h.few);
            counted = f ∙ (rw z (omega (arith, h.counted, length-append (starts_from c i 0) (i ∷ []))));
            place = spanned_place at' p;
            filled =
                let span : ◌≡◌ {A = Span} (record { first = at + 2; rows = rows; size = size }) (span_of c n s i) = rw (er, es, h.place) refl in
                e ∙ ap (set ss t) span ∙ set_last l ∙ ap (fill 32 blank) (sym (map-append (span_of c n s) (starts_from c i 0) (i ∷ [])) ∙ ap (map (span_of c n s)) (sym z));
          }

      pub spanned_out : kind_at c i ≡ 1 → 32 ≤ t → ss' ≡ ss → t' ≡ t + 1 → Spanned c n s (i + 1) t' at' ss'
      spanned_out k l e f =
          let z : starts_from c (i + 1) 0 ≡ starts_from c i 0 ++ (i ∷ []) = starts_table c i k in
          record {
            few = omega (arith, h.few);
            counted = f ∙ (rw z (omega (arith, h.counted, length-append (starts_from c i 0) (i ∷ []))));
            place = spanned_place at' p;
            filled =
                let long : 32 ≤ length (map (span_of c n s) (starts_from c i 0)) = omega (arith, l, count) in
                e ∙ h.filled ∙ sym (fill_full blank 32 (map (span_of c n s) (starts_from c i 0)) (map (span_of c n s) (i ∷ [])) long)
                ∙ ap (fill 32 blank) (sym (map-append (span_of c n s) (starts_from c i 0) (i ∷ [])) ∙ ap (map (span_of c n s)) (sym z));
          }

      pub spanned_over : (kind_at c i ≡ 1 → ⊥) → ss' ≡ ss → t' ≡ t → Spanned c n s (i + 1) t' at' ss'
      spanned_over k e f =
          let z : starts_from c (i + 1) 0 ≡ starts_from c i 0 = starts_column c i k in
          record { few = omega (arith, h.few); counted = f ∙ h.counted ∙ ap length (sym z); place = spanned_place at' p; filled = rw z (e ∙ h.filled) }

  pub spanned_all : (i t at : ℕ) (ss : List Span) → n ≤ i → i ≤ n → Spanned c n s i t at ss → ss ≡ spans_of c n s
  unfolding spans_of
  spanned_all i t at ss a b h = let e : i ≡ n = omega arith in rw e at h.filled

  -- ---- what the array says of table j

  pub span_in : (j : ℕ) → j < length (starts_from c n 0) → length (starts_from c n 0) ≤ 32 → get_or (spans_of c n s) j blank ≡ span_of c n s (get_or (starts_from c n 0) j 0)
  unfolding spans_of
  span_in j h l =
      let m : j < length (map (span_of c n s) (starts_from c n 0)) = omega (arith, h, length-map (span_of c n s) (starts_from c n 0)) in
      fill_at blank 32 (map (span_of c n s) (starts_from c n 0)) j m (omega arith) ∙ get_or-map (span_of c n s) (starts_from c n 0) j 0 blank h

  is_span : (i : ℕ) (span : Span) → i < n → kind_at c i ≡ 1 → end_from c n s n 0 8 ≡ length s → span ≡ span_of c n s i → IsSpan c n s i span
  unfolding span_of
  is_span i span l k e f =
      rw f
      (record { below = l; table = k; first = refl; rows = refl; size = refl; inside = rw e at (table_inside c n s i l k) })

-- ---- the rows of the tables

module _ (c : List ℕ) (n : ℕ) (s : List ℕ) where
  place_again : (i at q : ℕ) → at ≡ place_of c n s i → q ≡ place_after c n s i at → q ≡ place_of c n s (i + 1)
  unfolding place_of
  place_again i at q p e = rw (add-one i) (e ∙ ap (place_after c n s i) p)

  place_begin : 8 ≡ place_of c n s 0
  unfolding place_of
  place_begin = refl

  pub nth_stores : (k i at j : ℕ) → at ≡ place_of c n s i → j < length (starts_from c k i) → nth (tables_rows c n s k i at) j ≡ done (table_rows c n s (get_or (starts_from c k i) j 0) (place_of c n s (get_or (starts_from c k i) j 0)))
  unfolding starts_from tables_rows nth
  nth_stores zero i at j p h = absurd (omega arith)
  nth_stores (suc k) i at j p h = go (λ m. nth_stores k (i + 1) (place_after c n s i at) m (place_again i at _ p refl)) (eqb (kind_at c i) 1) j h
    where
      go : ((j : ℕ) → j < length (starts_from c k (i + 1)) → nth (tables_rows c n s k (i + 1) (place_after c n s i at)) j ≡ done (table_rows c n s (get_or (starts_from c k (i + 1)) j 0) (place_of c n s (get_or (starts_from c k (i + 1)) j 0))))
          → (b : Bool) (j : ℕ) → j < length (cond b (i ∷ starts_from c k (i + 1)) (starts_from c k (i + 1)))
          → nth (cond b (table_rows c n s i at ∷ tables_rows c n s k (i + 1) (place_after c n s i at)) (tables_rows c n s k (i + 1) (place_after c n s i at))) j
          ≡ done (table_rows c n s (get_or (cond b (i ∷ starts_from c k (i + 1)) (starts_from c k (i + 1))) j 0) (place_of c n s (get_or (cond b (i ∷ starts_from c k (i + 1)) (starts_from c k (i + 1))) j 0)))
      go ih true zero h = unfold nth in ap (λ (x : ℕ). done (table_rows c n s i x)) p
      go ih true (suc j) h = unfold nth in ih j (omega arith)
      go ih false j h = ih j h

module _ (c s : List ℕ) (t : ℕ) (e : fault.check_of c ≡ fine t) (f : check_of c (count_at c) t s ≡ fine (tt {0})) (j : ℕ) (h : j < t) where
  pub span_is : IsSpan c (count_at c) s (get_or (starts_of c) j 0) (get_or (spans_of c (count_at c) s) j blank)
  unfolding starts_of
  span_is =
      let a = catalogue.accepted c t e in
      is_span c (count_at c) s (get_or (starts_from c (count_at c) 0) j 0) (get_or (spans_of c (count_at c) s) j blank) (a.starts_within j h) (a.starts_are_tables j h)
      (accepted c (count_at c) t s f).ends (span_in c (count_at c) s j (omega (arith, a.starts_length)) (omega (arith, a.starts_length, a.few_tables)))

  -- table j, and its rows
  pub rows_are : nth (store_of c s) j
      ≡ done (rows_from c (count_at c) s (get_or (starts_of c) j 0) (get_or (spans_of c (count_at c) s) j blank).rows (get_or (spans_of c (count_at c) s) j blank).first (get_or (spans_of c (count_at c) s) j blank).size)
  unfolding store_of starts_of table_rows
  rows_are =
      let a = span_is in
      rw (a.first, a.rows, a.size) (nth_stores c (count_at c) s (count_at c) 0 8 j (place_begin c (count_at c) s) (omega (arith, (catalogue.accepted c t e).starts_length)))

-- ---- a row and a cell stand inside the store

rows_within : (first rows size r len : ℕ) → first + rows * size ≤ len → r < rows → first + r * size + size ≤ len
rows_within first rows size r len l h = omega (arith, suc-mul r size, mul-le-mul_right size h)

module _ (c : List ℕ) (n : ℕ) (s : List ℕ) (i : ℕ) (span : Span) (a : IsSpan c n s i span) (r : ℕ) (h : r < span.rows) where
  pub row_inside : span.first + r * span.size + span.size ≤ length s
  row_inside = rows_within span.first span.rows span.size r (length s) a.inside h

  pub cell_inside : (m : ℕ) → m < columns_from c (n - (i + 1)) (i + 1) → cell_place (span.first + r * span.size) m + 8 ≤ length s
  unfolding row_size cell_place
  cell_inside m l =
      let z : span.size ≡ 0 + 2 + 8 * columns_from c (n - (i + 1)) (i + 1) = a.size in
      omega (arith, row_inside, z, l)

-- ---- the classes of a row and its cells keep their rules

module _ (c s : List ℕ) (t : ℕ) (e : fault.check_of c ≡ fine t) (f : check_of c (count_at c) t s ≡ fine tt) (j : ℕ) (h : j < t) (r : ℕ) (l : r < (get_or (spans_of c (count_at c) s) j blank).rows) where
  row_of : row_fault c (count_at c) s (get_or (starts_of c) j 0) ((get_or (spans_of c (count_at c) s) j blank).first + r * (get_or (spans_of c (count_at c) s) j blank).size) ≡ 0
  row_of =
      let a = span_is c s t e f j h in
      rw (a.first, a.size)
      (row_clean c (count_at c) s (get_or (starts_of c) j 0) (u16_at s (place_of c (count_at c) s (get_or (starts_of c) j 0))) (place_of c (count_at c) s (get_or (starts_of c) j 0) + 2) (row_size c (count_at c) (get_or (starts_of c) j 0))
      (table_clean c (count_at c) s (accepted c (count_at c) t s f).no_fault (get_or (starts_of c) j 0) a.below a.table)
      r (rw a.rows at l))

  row_some : 0 < (get_or (spans_of c (count_at c) s) j blank).first + r * (get_or (spans_of c (count_at c) s) j blank).size
  row_some = let a = span_is c s t e f j h in omega (arith, a.first)

  pub row_keeps : class_rule c (get_or (starts_of c) j 0) s ((get_or (spans_of c (count_at c) s) j blank).first + r * (get_or (spans_of c (count_at c) s) j blank).size) ≡ true
  row_keeps = (class_clean c (count_at c) s (get_or (starts_of c) j 0) _ row_some row_of).0

  pub cell_keeps : (m : ℕ) → m < columns_from c (count_at c - (get_or (starts_of c) j 0 + 1)) (get_or (starts_of c) j 0 + 1)
      → cell_rule c (get_or (starts_of c) j 0 + 1 + m) s (cell_place ((get_or (spans_of c (count_at c) s) j blank).first + r * (get_or (spans_of c (count_at c) s) j blank).size) m) ≡ true
  cell_keeps m k =
      let z : 0 + m ≡ m = omega arith in
      rw z at
      (cell_clean c (count_at c) s (count_at c - (get_or (starts_of c) j 0 + 1)) (get_or (starts_of c) j 0 + 1) _ 0
      (class_clean c (count_at c) s (get_or (starts_of c) j 0) _ row_some row_of).1 m k)
