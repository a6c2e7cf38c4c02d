-- Laws of the store's layout and of its first fault, each by one record, row or cell.
-- Assumes nothing.
use Prim.Native.Nat.{ℕ, suc, ◌+◌, ◌-◌, ◌*◌, ◌/◌, ◌%◌, ◌^◌, ◌<◌, ◌≤◌}
use mathlib.Core.Path.{◌≡◌, refl, sym, ap}
use mathlib.Core.Bool.{Bool, true, false, cond}
use mathlib.Core.List.{List}
use native.Mathlib.Omega.{arith}
use native.Mathlib.Nat.{mul-le-mul, mul-le-mul_right, suc-mul}
use native.Mathlib.Numerals.{add-one}
use borrow.Author.Tests.{ne_eqb, eqb-true, ltb-false}
use lib.ListN.{length, get_or, get_or-eq_default}
use lib.Dec.{eqb, ltb, leb}
use lib.IntN.{pos, negsuc, nat_abs}
use Rattle.word.specs.Bytes.{u16_at, signed32}
use Rattle.word.specs.Record.{kind_at}
use Rattle.word.specs.Refusal.{fine, refusal}
use Rattle.word.specs.Header.{count_at}
use Rattle.cell.specs.Types.{type_by}
use Rattle.catalogue.specs.Fault.{check_of}
use Rattle.catalogue.proofs.Meaning.{accepted}
use Rattle.cell.specs.declared.Type.{«Type» as Ty}
use Rattle.cell.specs.declared.Type.TheVariants as T
use Rattle.store.specs.Layout.{class_rule, magnitude, value_rule, cell_rule, cell_place, columns_from, row_size, place_after, place_of, end_from, first, cells_fault, row_fault, rows_fault, table_fault, fault_from, verdict_by}
use Rattle.store.proofs.Meaning.{table_inside}

-- a byte past the end counts as 0
pub byte_past : (s : List ℕ) (i : ℕ) → length s ≤ i → 0 ≡ get_or s i 0
byte_past s i h = sym (get_or-eq_default s 0 {n = i} h)

-- ---- a value

-- |m| of 32 bits read as signed
pub magnitude_of : (v : ℕ) → v < 2 ^ 32 → nat_abs (signed32 v) ≡ magnitude v
unfolding signed32 magnitude
magnitude_of v h = go (ltb v 2147483648) refl
  where
    go : (b : Bool) → ltb v 2147483648 ≡ b → nat_abs (cond b (pos v) (negsuc (4294967295 - v))) ≡ cond b v (4294967296 - v)
    go true e = refl
    go false e = let l : 2147483648 ≤ v = ltb-false v 2147483648 e in omega arith

-- the rule by the type
abbrev pub value_by : Ty → ℕ → Bool
value_by T.Null v = true
value_by T.Boolean v = leb v 1
value_by (T.Fixed p s) v = ltb (magnitude v) (10 ^ p)
value_by (T.Time f) v = true
value_by (T.Interval f) v = true
value_by T.Class v = leb v 65535

module _ (high low : ℕ) where
  pub value_law : (mark v : ℕ) → value_rule high low mark v ≡ cond (eqb mark 1) (eqb v 0) (value_by (type_by high low) v)
  unfolding value_rule type_by
  value_law mark v = ap (cond (eqb mark 1) (eqb v 0)) (go (eqb high 1) (eqb high 2) (eqb high 3) (eqb high 4) (eqb high 5) refl refl refl)
    where
      go : (a b d e f : Bool) → eqb high 3 ≡ d → eqb high 4 ≡ e → eqb high 5 ≡ f
          → cond a (leb v 1) (cond b (ltb (magnitude v) (10 ^ (low / 16))) (cond f (leb v 65535) true))
          ≡ value_by (cond a T.Boolean (cond b (T.Fixed (low / 16) (low % 16)) (cond d (T.Time low) (cond e (T.Interval low) (cond f T.Class T.Null))))) v
      go true b d e f p q r = refl
      go false true d e f p q r = refl
      go false false true e false p q r = refl
      go false false true e true p q r = absurd (omega (arith, eqb-true high 3 p, eqb-true high 5 r))
      go false false false true false p q r = refl
      go false false false true true p q r = absurd (omega (arith, eqb-true high 4 q, eqb-true high 5 r))
      go false false false false true p q r = refl
      go false false false false false p q r = refl

  -- digits are four bits
  pub digits_few : (p s : ℕ) → type_by high low ≡ T.Fixed p s → low < 256 → p < 16
  unfolding type_by
  digits_few p s e h = go (eqb high 1) (eqb high 2) (eqb high 3) (eqb high 4) (eqb high 5) e
    where
      go : (a b d e f : Bool) → cond a T.Boolean (cond b (T.Fixed (low / 16) (low % 16)) (cond d (T.Time low) (cond e (T.Interval low) (cond f T.Class T.Null)))) ≡ T.Fixed p s → p < 16
      go true b d e f w = cc
      go false true d e f w = let z : low / 16 ≡ p = cc in omega arith
      go false false true e f w = cc
      go false false false true f w = cc
      go false false false false true w = cc
      go false false false false false w = cc

pub ruleset values = (value_law, magnitude_of, digits_few)

-- ---- columns, tables, the store's end

module _ (c : List ℕ) (n j : ℕ) where
  pub columns_two : j < n → kind_at c j ≡ 2 → columns_from c (n - j) j ≡ 1 + columns_from c (n - (j + 1)) (j + 1)
  unfolding columns_from
  columns_two h e = let d : n - j ≡ suc (n - (j + 1)) = omega arith in rw (d, e)

  pub columns_other : j < n → (kind_at c j ≡ 2 → ⊥) → columns_from c (n - j) j ≡ 0
  unfolding columns_from
  columns_other h e = let d : n - j ≡ suc (n - (j + 1)) = omega arith in rw (d, ne_eqb (kind_at c j) 2 e)

  pub columns_none : n ≤ j → columns_from c (n - j) j ≡ 0
  unfolding columns_from
  columns_none h = let d : n - j ≡ 0 = omega arith in rw d

pub ruleset columns = (columns_two, columns_other, columns_none)

pub place_law : (at j : ℕ) → cell_place at j ≡ at + 2 + 8 * j
unfolding cell_place
place_law at j = refl

pub size_law : (c : List ℕ) (n i : ℕ) → row_size c n i ≡ 2 + 8 * columns_from c (n - (i + 1)) (i + 1)
unfolding row_size cell_place
size_law c n i = omega arith

pub all_few : (rows size : ℕ) → rows < 65536 → size ≤ 16642 → rows * size ≤ 1090650112
all_few rows size h k = let g : rows ≤ 65535 = omega arith in omega (arith, mul-le-mul g k)

module _ (c : List ℕ) (n : ℕ) (s : List ℕ) (i at : ℕ) where
  pub end_more : i < n → end_from c n s (n - i) i at ≡ end_from c n s (n - (i + 1)) (i + 1) (place_after c n s i at)
  unfolding end_from
  end_more h = let d : n - i ≡ suc (n - (i + 1)) = omega arith in rw d

  pub end_none : n ≤ i → end_from c n s (n - i) i at ≡ at
  unfolding end_from
  end_none h = let d : n - i ≡ 0 = omega arith in rw d

pub ruleset ends = (end_more, end_none)

-- ---- the first fault: none, or its place

pub verdict_none : (p : ℕ) → p ≡ 0 → verdict_by p ≡ fine (tt {0})
unfolding verdict_by
verdict_none p e = rw e

pub verdict_some : (p : ℕ) → 0 < p → verdict_by p ≡ refusal 33 p
unfolding verdict_by
verdict_some p h = rw (ne_eqb p 0 (λ e. omega arith))

pub verdict_fine : (p : ℕ) → fine (tt {0}) ≡ verdict_by p → p ≡ 0
unfolding verdict_by
verdict_fine p e = go (eqb p 0) refl e
  where
    go : (b : Bool) → eqb p 0 ≡ b → fine (tt {0}) ≡ cond b (fine (tt {0})) (refusal 33 p) → p ≡ 0
    go true q w = eqb-true p 0 q
    go false q w = cc

pub first_none : (a b : ℕ) → a ≡ 0 → first a b ≡ b
unfolding first
first_none a b e = rw e

pub first_refused : (a b k p : ℕ) → refusal k p ≡ verdict_by a → refusal k p ≡ verdict_by (first a b)
unfolding verdict_by first
first_refused a b k p e = go (eqb a 0) refl e
  where
    go : (d : Bool) → eqb a 0 ≡ d → refusal k p ≡ cond d (fine (tt {0})) (refusal 33 a) → refusal k p ≡ cond (eqb (cond d b a) 0) (fine (tt {0})) (refusal 33 (cond d b a))
    go true q w = cc
    go false q w = rw q w

pub ruleset verdicts = (verdict_none, verdict_some, verdict_fine, first_none, first_refused)

-- ---- in the cells of a row

module _ (c s : List ℕ) (n i at j : ℕ) where
  pub cells_over : i < n → (kind_at c i ≡ 2 → ⊥) → cells_fault c s (n - i) i at j ≡ 0
  unfolding cells_fault
  cells_over h e = let d : n - i ≡ suc (n - (i + 1)) = omega arith in rw (d, ne_eqb (kind_at c i) 2 e)

  pub cells_here : i < n → kind_at c i ≡ 2 → cell_rule c i s (cell_place at j) ≡ false → cells_fault c s (n - i) i at j ≡ cell_place at j
  unfolding cells_fault
  cells_here h e f = let d : n - i ≡ suc (n - (i + 1)) = omega arith in rw (d, e, f)

  pub cells_more : (next : ℕ) → i < n → kind_at c i ≡ 2 → cell_rule c i s (cell_place at j) ≡ true → next ≡ j + 1 → cells_fault c s (n - i) i at j ≡ cells_fault c s (n - (i + 1)) (i + 1) at next
  unfolding cells_fault
  cells_more next h e f g = let d : n - i ≡ suc (n - (i + 1)) = omega arith in rw (d, e, f, g)

  pub cells_none : n ≤ i → cells_fault c s (n - i) i at j ≡ 0
  unfolding cells_fault
  cells_none h = let d : n - i ≡ 0 = omega arith in rw d

pub ruleset cells = (cells_over, cells_here, cells_more, cells_none, columns_two, place_law, verdict_none, verdict_some)

-- ---- in a row, in rows

module _ (c : List ℕ) (n : ℕ) (s : List ℕ) (i : ℕ) where
  pub row_class : (at : ℕ) → class_rule c i s at ≡ false → row_fault c n s i at ≡ at
  unfolding row_fault
  row_class at e = rw e

  pub row_cells : (at : ℕ) → class_rule c i s at ≡ true → row_fault c n s i at ≡ cells_fault c s (n - (i + 1)) (i + 1) at 0
  unfolding row_fault
  row_cells at e = rw e

  pub rows_more : (m r at size : ℕ) → r < m → rows_fault c n s i (m - r) (at + r * size) size ≡ first (row_fault c n s i (at + r * size)) (rows_fault c n s i (m - (r + 1)) (at + (r + 1) * size) size)
  unfolding rows_fault
  rows_more m r at size h =
      let d : m - r ≡ suc (m - (r + 1)) = omega arith in
      let e : at + (r + 1) * size ≡ at + r * size + size = rw (add-one r) (omega (arith, suc-mul r size)) in
      rw (d, e)

  pub rows_none : (m r at size : ℕ) → m ≤ r → rows_fault c n s i (m - r) at size ≡ 0
  unfolding rows_fault
  rows_none m r at size h = let d : m - r ≡ 0 = omega arith in rw d

  -- a row among so many stands before their end
  pub row_inside : (m r at size : ℕ) → r < m → at + r * size + size ≤ at + m * size
  row_inside m r at size h = omega (arith, suc-mul r size, mul-le-mul_right size h)

pub ruleset rows = (row_class, row_cells, rows_more, rows_none, row_inside, place_law, size_law, verdict_none, verdict_some, verdict_fine, first_none, first_refused)

-- ---- in all tables

module _ (c : List ℕ) (n : ℕ) (s : List ℕ) (i at : ℕ) where
  pub fault_table : i < n → kind_at c i ≡ 1 → fault_from c n s (n - i) i at ≡ first (rows_fault c n s i (u16_at s at) (at + 2) (row_size c n i)) (fault_from c n s (n - (i + 1)) (i + 1) (place_after c n s i at))
  unfolding fault_from table_fault
  fault_table h e = let d : n - i ≡ suc (n - (i + 1)) = omega arith in rw (d, e)

  pub fault_column : i < n → (kind_at c i ≡ 1 → ⊥) → fault_from c n s (n - i) i at ≡ fault_from c n s (n - (i + 1)) (i + 1) (place_after c n s i at)
  unfolding fault_from table_fault first
  fault_column h e = let d : n - i ≡ suc (n - (i + 1)) = omega arith in rw (d, ne_eqb (kind_at c i) 1 e)

  pub fault_none : n ≤ i → fault_from c n s (n - i) i at ≡ 0
  unfolding fault_from
  fault_none h = let d : n - i ≡ 0 = omega arith in rw d

  -- where the next record's table stands, and that a table stands inside
  pub place_more : at ≡ place_of c n s i → place_after c n s i at ≡ place_of c n s (i + 1)
  unfolding place_of
  place_more e = rw (add-one i, e)

  pub inside : i < n → kind_at c i ≡ 1 → at ≡ place_of c n s i → end_from c n s n 0 8 ≡ length s → at + 2 + u16_at s at * row_size c n i ≤ length s
  inside h e p q = rw p (rw q at (table_inside c n s i h e))

pub place_first : (c : List ℕ) (n : ℕ) (s : List ℕ) → place_of c n s 0 ≡ 8
unfolding place_of
place_first c n s = refl

pub ruleset faults = (place_first, fault_table, fault_column, fault_none, place_more, inside, verdict_none, verdict_some, verdict_fine, first_none, first_refused)

-- an accepted catalogue has no more than 2,080 records
pub count_few : (c : List ℕ) (tables : ℕ) → check_of c ≡ fine tables → count_at c ≤ 2080
count_few c tables e = (accepted c tables e).few_records
