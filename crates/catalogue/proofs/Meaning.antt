-- What the check's answer means: an accepted catalogue has no fault at any record, a refused one has its fault at the lowest record that has one.
-- And what the passes over an accepted catalogue start from. Assumes nothing.
use Prim.Native.Nat.{ℕ, zero, suc, ◌+◌, ◌-◌, ◌*◌, ◌<◌, ◌≤◌}
use mathlib.Core.Path.{◌≡◌, refl, sym, ap, ◌∙◌}
use mathlib.Core.Bool.{Bool, true, false, cond, ◌&&◌}
use mathlib.Core.List.{List, ◌∷◌}
use Rattle.std.specs.Prelude.{Result, Ok}
use native.Mathlib.Omega.{arith}
use native.Mathlib.Numerals.{add-one}
use borrow.Author.Tests.{leb-true, eqb-true, eqb-false, eq-eqb}
use lib.ListN.{length, get_or, take, drop, replicate}
use lib.Seq.{take_at}
use lib.Dec.{eqb, leb}
use Rattle.word.specs.Bytes.{within}
use Rattle.word.specs.Header.{drc, headed, count_at}
use Rattle.word.specs.Record.{kind_at}
use Rattle.catalogue.specs.Fault.{tables_before, fault_at, lowest, check_of}
use Rattle.catalogue.specs.Tables.{table_at, tables_from, catalogue_of}
use Rattle.catalogue.specs.Starts.{starts_from, starts_of, starts_array, StartsAre}
use Rattle.word.specs.Refusal.{fine, refusal, said}
use Rattle.word.specs.declared.refusal.Refusal.{Refusal}
use Rattle.word.proofs.Writing.{length_put, put_start}
use Rattle.catalogue.proofs.Faultless.{both, table_ok, column_ok, two_kinds}
use Rattle.catalogue.proofs.Places.{starts_below, starts_kind}

-- no fault among the records from i up to e
abbrev pub Clean : List ℕ → ℕ → ℕ → ℕ → Type 0
Clean c n i e = (j : ℕ) → i ≤ j → j < e → fault_at c n j ≡ 0

-- the lowest fault, of k records from i
pub record Lowest (c : List ℕ) (n i k f p : ℕ) : Type 0 where
  pub from : i ≤ p
  pub within_it : p < i + k
  pub fault : fault_at c n p ≡ f
  pub some_fault : f ≡ 0 → ⊥
  pub none_before : Clean c n i p

module _ (c : List ℕ) (n : ℕ) where
  clean_more : (i e : ℕ) → fault_at c n i ≡ 0 → Clean c n (i + 1) e → Clean c n i e
  clean_more i e z h j a b = go (eqb j i) refl
    where
      go : (t : Bool) → eqb j i ≡ t → fault_at c n j ≡ 0
      go true q = let m : j ≡ i = eqb-true j i q in rw m z
      go false q = let m : j ≡ i → ⊥ = eqb-false j i q in h j (omega (arith, m)) b

  pub lowest_clean : (k i t : ℕ) → lowest c n k i ≡ fine t → Clean c n i (i + k) × (t ≡ tables_before c (i + k))
  unfolding lowest
  lowest_clean zero i t e = (λ j a b. absurd (omega arith), let h : tables_before c i ≡ t = cc in let z : i + zero ≡ i = omega arith in rw z (sym h))
  lowest_clean (suc k) i t e = go (lowest_clean k (i + 1) t) (eqb (fault_at c n i) 0) refl e
    where
      go : (lowest c n k (i + 1) ≡ fine t → Clean c n (i + 1) (i + 1 + k) × (t ≡ tables_before c (i + 1 + k))) → (b : Bool) → eqb (fault_at c n i) 0 ≡ b → cond b (lowest c n k (i + 1)) (refusal (fault_at c n i) i) ≡ fine t → Clean c n i (i + suc k) × (t ≡ tables_before c (i + suc k))
      go ih true q w = let (x, y) = ih w in let z : i + 1 + k ≡ i + suc k = omega arith in (clean_more i (i + suc k) (eqb-true _ _ q) (λ j a b. x j a (omega arith)), y ∙ ap (tables_before c) z)
      go ih false q w = absurd (let h : ◌≡◌ {A = ℕ} 0 1 = cc in omega arith)

  pub lowest_refused : (k i f p : ℕ) → lowest c n k i ≡ refusal f p → Lowest c n i k f p
  unfolding lowest
  lowest_refused zero i f p e = absurd (let h : ◌≡◌ {A = ℕ} 0 1 = cc in omega arith)
  lowest_refused (suc k) i f p e = go (lowest_refused k (i + 1) f p) (eqb (fault_at c n i) 0) refl e
    where
      go : (lowest c n k (i + 1) ≡ refusal f p → Lowest c n (i + 1) k f p) → (b : Bool) → eqb (fault_at c n i) 0 ≡ b → cond b (lowest c n k (i + 1)) (refusal (fault_at c n i) i) ≡ refusal f p → Lowest c n i (suc k) f p
      go ih true q w = let x = ih w in record {
        from = omega (arith, x.from);
        within_it = omega (arith, x.within_it);
        fault = x.fault;
        some_fault = x.some_fault;
        none_before = clean_more i p (eqb-true _ _ q) x.none_before;
      }
      go ih false q w = let g : i ≡ p = cc in let h : fault_at c n i ≡ f = cc in record {
        from = omega (arith, g);
        within_it = omega (arith, g);
        fault = ap (fault_at c n) (sym g) ∙ h;
        some_fault = λ z. eqb-false _ _ q (h ∙ z);
        none_before = λ j a b. absurd (omega (arith, g));
      }

-- ---- one record more

one_more : (c : List ℕ) (i : ℕ) (b : Bool) → eqb (kind_at c i) 1 ≡ b → tables_before c (i + 1) ≡ cond b (tables_before c i + 1) (tables_before c i)
unfolding tables_before
one_more c i b q = rw (add-one i, q)

none_yet : (c : List ℕ) → tables_before c 0 ≡ 0
unfolding tables_before
none_yet c = refl

-- ---- the number of tables

module _ (c : List ℕ) where
  -- the tables before i, and those among the k records from i on, are those before i + k
  pub tables_count : (k i : ℕ) → length (starts_from c k i) + tables_before c i ≡ tables_before c (i + k)
  unfolding starts_from
  tables_count zero i = let e : i + zero ≡ i = omega arith in rw e (omega arith)
  tables_count (suc k) i = let e : i + suc k ≡ i + 1 + k = omega arith in rw e (go (eqb (kind_at c i) 1) refl (tables_count k (i + 1)))
    where
      go : (b : Bool) → eqb (kind_at c i) 1 ≡ b → length (starts_from c k (i + 1)) + tables_before c (i + 1) ≡ tables_before c (i + 1 + k)
          → length (cond b (i ∷ starts_from c k (i + 1)) (starts_from c k (i + 1))) + tables_before c i ≡ tables_before c (i + 1 + k)
      go true q h = omega (arith, h, one_more c i true q)
      go false q h = omega (arith, h, one_more c i false q)

  pub tables_listed : (n k i : ℕ) → length (tables_from c n k i) ≡ length (starts_from c k i)
  unfolding starts_from tables_from
  tables_listed n zero i = refl
  tables_listed n (suc k) i = go (eqb (kind_at c i) 1) (tables_listed n k (i + 1))
    where
      go : (b : Bool) → length (tables_from c n k (i + 1)) ≡ length (starts_from c k (i + 1))
          → length (cond b (table_at c n i ∷ tables_from c n k (i + 1)) (tables_from c n k (i + 1))) ≡ length (cond b (i ∷ starts_from c k (i + 1)) (starts_from c k (i + 1)))
      go true h = ap suc h
      go false h = h

  module _ (n : ℕ) (clean : Clean c n 0 n) where
    pub tables_few : (i : ℕ) → i ≤ n → tables_before c i ≤ 32
    unfolding tables_before
    tables_few zero h = omega arith
    tables_few (suc i) h = go (eqb (kind_at c i) 1) refl (tables_few i (omega arith))
      where
        go : (b : Bool) → eqb (kind_at c i) 1 ≡ b → tables_before c i ≤ 32 → cond b (tables_before c i + 1) (tables_before c i) ≤ 32
        go true q l = omega (arith, (table_ok c n i (clean i (omega arith) h) (eqb-true _ _ q)).few)
        go false q l = l

    pub tables_some : 1 ≤ n → 1 ≤ tables_before c n
    tables_some h = two_kinds c n 0 (clean 0 (omega arith) h) (λ e. at_least e) (λ e. absurd (no_column e))
      where
        at_least : kind_at c 0 ≡ 1 → 1 ≤ tables_before c n
        at_least e =
            let m : 1 + (n - 1) ≡ n = omega arith in
            let d : length (starts_from c (n - 1) 1) + tables_before c 1 ≡ tables_before c n = tables_count (n - 1) 1 ∙ ap (tables_before c) m in
            omega (arith, d, one_more c 0 true (eq-eqb (kind_at c 0) 1 e))

        no_column : kind_at c 0 ≡ 2 → ⊥
        no_column e = omega (arith, (column_ok c n 0 (clean 0 (omega arith) h) e).table, none_yet c)

-- ---- the array of the tables' records

array_length : (c : List ℕ) (n : ℕ) → length (starts_array c n) ≡ 32
unfolding starts_array
array_length c n = length_put (replicate 32 0) 0 (starts_from c n 0)

array_front : (c : List ℕ) (n t : ℕ) → length (starts_from c n 0) ≡ t → t ≤ 32 → take t (starts_array c n) ≡ starts_from c n 0
unfolding starts_array
array_front c n t e h =
    ap (take t) (put_start (replicate 32 0) (starts_from c n 0) (omega (arith, e)))
    ∙ take_at (starts_from c n 0) (drop (length (starts_from c n 0)) (replicate 32 0)) t e

counted_by : (c : List ℕ) (n t : ℕ) → length (starts_of c) ≡ t → n ≡ count_at c → length (starts_from c n 0) ≡ t
unfolding starts_of
counted_by c n t e k = rw k e

-- ---- an accepted catalogue

-- what a pass over an accepted catalogue starts from: t tables, among 1 to 2,080 records without a fault
pub record Accepted (c : List ℕ) (t : ℕ) : Type 0 where
  pub some_records : 1 ≤ count_at c
  pub few_records : count_at c ≤ 2080
  pub long_enough : length c ≡ 8 + 8 * count_at c
  pub no_fault : Clean c (count_at c) 0 (count_at c)
  pub tables : t ≡ tables_before c (count_at c)
  pub some_tables : 1 ≤ t
  pub few_tables : t ≤ 32
  pub catalogue_length : length (catalogue_of c) ≡ t
  pub starts_length : length (starts_of c) ≡ t
  pub starts_within : (j : ℕ) → j < t → get_or (starts_of c) j 0 < count_at c
  pub starts_are_tables : (j : ℕ) → j < t → kind_at c (get_or (starts_of c) j 0) ≡ 1

counted : (c : List ℕ) (t : ℕ) → t ≡ tables_before c (count_at c) → length (starts_of c) ≡ t
unfolding starts_of
counted c t e =
    let z : 0 + count_at c ≡ count_at c = omega arith in
    let d : length (starts_from c (count_at c) 0) + tables_before c 0 ≡ tables_before c (count_at c) = tables_count c (count_at c) 0 ∙ ap (tables_before c) z in
    omega (arith, d, e, none_yet c)

listed : (c : List ℕ) → length (catalogue_of c) ≡ length (starts_of c)
unfolding catalogue_of starts_of
listed c = tables_listed c (count_at c) (count_at c) 0

all_below : (c : List ℕ) (j : ℕ) → j < length (starts_of c) → get_or (starts_of c) j 0 < count_at c
unfolding starts_of
all_below c j h = omega (arith, starts_below c (count_at c) 0 j h)

all_tables : (c : List ℕ) (j : ℕ) → j < length (starts_of c) → kind_at c (get_or (starts_of c) j 0) ≡ 1
unfolding starts_of
all_tables c j h = starts_kind c (count_at c) 0 j h

pub accepted : (c : List ℕ) (t : ℕ) → check_of c ≡ fine t → Accepted c t
unfolding check_of
accepted c t e = go (headed drc c) (within 1 2080 (count_at c) && eqb (length c) (8 + 8 * count_at c)) refl e
  where
    go : (a b : Bool) → (within 1 2080 (count_at c) && eqb (length c) (8 + 8 * count_at c)) ≡ b → cond a (cond b (lowest c (count_at c) (count_at c) 0) (refusal 22 0)) (refusal 21 0) ≡ fine t → Accepted c t
    go false b q w = absurd (let h : ◌≡◌ {A = ℕ} 0 1 = cc in omega arith)
    go true false q w = absurd (let h : ◌≡◌ {A = ℕ} 0 1 = cc in omega arith)
    go true true q w =
        let (x, y) = lowest_clean c (count_at c) (count_at c) 0 t w in
        let (l, m) = both (within 1 2080 (count_at c)) (eqb (length c) (8 + 8 * count_at c)) q in
        let (a, b) = both (leb 1 (count_at c)) (leb (count_at c) 2080) l in
        let some : 1 ≤ count_at c = leb-true 1 (count_at c) a in
        let clean : Clean c (count_at c) 0 (count_at c) = λ j a b. x j a (omega arith) in
        let z : 0 + count_at c ≡ count_at c = omega arith in
        let number : t ≡ tables_before c (count_at c) = y ∙ ap (tables_before c) z in
        let starts : length (starts_of c) ≡ t = counted c t number in
        record {
          some_records = some;
          few_records = leb-true (count_at c) 2080 b;
          long_enough = eqb-true _ _ m;
          no_fault = clean;
          tables = number;
          some_tables = omega (arith, number, tables_some c (count_at c) clean some);
          few_tables = omega (arith, number, tables_few c (count_at c) clean (count_at c) (omega arith));
          catalogue_length = listed c ∙ starts;
          starts_length = starts;
          starts_within = λ j h. all_below c j (omega (arith, starts));
          starts_are_tables = λ j h. all_tables c j (omega (arith, starts));
        }

-- ---- what a caller has of the check's answer

module _ (c : List ℕ) (t : ℕ) (v : Result ℕ Refusal) (e : said v ≡ check_of c) (f : v ≡ Ok t) where
  pub taken : Accepted c t
  taken = accepted c t (sym e ∙ ap said f)

  -- the header may be read
  pub taken_header : 6 + 2 ≤ length c
  taken_header = omega (arith, taken.long_enough)

  pub taken_tables : t ≤ 32
  taken_tables = taken.few_tables

  module _ (n : ℕ) (k : n ≡ count_at c) where
    -- n records may be read
    pub taken_records : 8 + 8 * n ≤ length c
    taken_records = omega (arith, taken.long_enough)

    pub taken_few : n ≤ 2080
    taken_few = omega (arith, taken.few_records)

    -- the array that `starts` gives
    pub taken_starts : (ss : List ℕ) → ss ≡ starts_array c n → StartsAre c n t ss
    taken_starts ss s = record {
      few = taken.few_tables;
      slots = ap length s ∙ array_length c n;
      are = ap (take t) s ∙ array_front c n t (counted_by c n t taken.starts_length k) taken.few_tables;
    }

pub ruleset takes = (taken_header, taken_tables, taken_records, taken_few, taken_starts)
