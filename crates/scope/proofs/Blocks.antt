-- The tables of a block's entry by number: what is known of their rows' class, their own classes, and the lub of these.
-- Assumes nothing.
use Prim.Native.Nat.{ℕ, zero, suc, ◌+◌, ◌-◌, ◌<◌, ◌≤◌, min}
use mathlib.Core.Path.{◌≡◌, refl, sym, ap, ◌∙◌}
use mathlib.Core.List.{List, [], ◌∷◌, map}
use native.Mathlib.Omega.{arith}
use borrow.Author.Rules.{rules}
use lib.ListN.{get_or, length, drop, drop_of_length-le}
use lib.Seq.{drop-cons}
use Rattle.word.specs.Record.{op_at, b_at, c_at}
use Rattle.class.specs.Class.{lub_of, lub_all}
use Rattle.class.specs.Info.{info_by}
use Rattle.class.specs.declared.Info.{Info}
use Rattle.class.specs.declared.Info.TheVariants.{Fixed}
use Rattle.catalogue.specs.Tables.{Table, TabRef, table_at}
use Rattle.scope.specs.Table.{tabs_at, open_of}
use Rattle.scope.specs.Blocks.{opened}
use Rattle.scope.specs.Entry.{count_in, table_in, tables_in, rows_of, classes_of}
use Rattle.scope.specs.declared.Scope.{Scope}
use Rattle.scope.specs.declared.Scope.TheVariants as S

-- a field of each of so many tables: of the first ones there is one, past the last there is none
module _ {A : Type 0} (f : Table → A) (d : A) (c : List ℕ) (n : ℕ) (s : Scope) where
  field_length : (i k : ℕ) → length (map f (tabs_at c n s i k)) ≡ k
  unfolding tabs_at
  field_length i zero = refl
  field_length i (suc k) = ap suc (field_length (i + 1) k)

  field_here : (i k j : ℕ) → j < k → get_or (map f (tabs_at c n s i k)) j d ≡ f (table_at c n (table_in s (i + j)))
  unfolding tabs_at
  field_here i zero j h = absurd (omega arith)
  field_here i (suc k) zero h = let e : i + 0 ≡ i = omega arith in rw e
  field_here i (suc k) (suc j) h = let e : i + suc j ≡ i + 1 + j = omega arith in rw e (field_here (i + 1) k j (omega arith))

  field_first : (k j : ℕ) → j < k → get_or (map f (tabs_at c n s 0 k)) j d ≡ f (table_at c n (table_in s j))
  field_first k j h = let e : 0 + j ≡ j = omega arith in rw e at (field_here 0 k j h)

  field_past : (i k j : ℕ) → k ≤ j → get_or (map f (tabs_at c n s i k)) j d ≡ d
  unfolding tabs_at
  field_past i zero j h = refl
  field_past i (suc k) zero h = absurd (omega arith)
  field_past i (suc k) (suc j) h = field_past (i + 1) k j (omega arith)

module _ (c : List ℕ) (n : ℕ) (s : Scope) where
  pub tables_in_lem : tables_in (open_of c n s) ≡ tabs_at c n s 0 (min (count_in s) 4)
  unfolding open_of tables_in count_in tabs_at
  tables_in_lem = go s
    where
      go : (s : Scope) → tables_in (open_of c n s) ≡ tabs_at c n s 0 (min (count_in s) 4)
      go (S.Block b) = let e : min (min b.count 15) 4 ≡ min b.count 4 = omega arith in rw e
      go (S.Local l) = refl

  -- table j of an entry that has it
  module _ (j t : ℕ) (l : (j < min (count_in s) 4) × (t ≡ table_in s j)) where
    pub row_here : (r : Info) → r ≡ info_by (op_at c t) (b_at c t) → r ≡ get_or (rows_of (tables_in (open_of c n s))) j (Fixed 0)
    unfolding table_at
    row_here r x = x ∙ rw (l.1, tables_in_lem, field_first (λ u. u.row) (Fixed 0) c n s (min (count_in s) 4) j l.0)

    pub class_here : (r : ℕ) → r ≡ c_at c t → r ≡ get_or (classes_of (tables_in (open_of c n s))) j 0
    unfolding table_at
    class_here r x = x ∙ rw (l.1, tables_in_lem, field_first (λ u. u.tclass) 0 c n s (min (count_in s) 4) j l.0)

  -- past its last
  module _ (j : ℕ) (h : min (count_in s) 4 ≤ j) where
    pub row_past : Fixed 0 ≡ get_or (rows_of (tables_in (open_of c n s))) j (Fixed 0)
    row_past = rw tables_in_lem (sym (field_past (λ u. u.row) (Fixed 0) c n s 0 (min (count_in s) 4) j h))

    pub class_past : 0 ≡ get_or (classes_of (tables_in (open_of c n s))) j 0
    class_past = rw tables_in_lem (sym (field_past (λ u. u.tclass) 0 c n s 0 (min (count_in s) 4) j h))

  -- the lub of the classes from table j on
  unfoldable pub lub_left : ℕ → ℕ
  lub_left j = lub_all (drop j (classes_of (tables_in (open_of c n s))))

  classes_number : length (classes_of (tables_in (open_of c n s))) ≡ min (count_in s) 4
  classes_number = rw tables_in_lem (field_length (λ u. u.tclass) 0 c n s 0 (min (count_in s) 4))

  pub lub_begin : (m : ℕ) → (m ≡ min (count_in s) 4) × (m ≤ 4) → 0 ≡ lub_left m
  unfolding lub_left
  lub_begin m l = let h : length (classes_of (tables_in (open_of c n s))) ≤ m = omega (arith, classes_number) in rw (drop_of_length-le (classes_of (tables_in (open_of c n s))) h)

  module _ (j k : ℕ) (x : k ≡ lub_left j) where
    pub lub_again : (own r : ℕ) → 0 < j → j ≤ min (count_in s) 4 → own ≡ get_or (classes_of (tables_in (open_of c n s))) (j - 1) 0 → r ≡ lub_of own k → r ≡ lub_left (j - 1)
    lub_again own r h l e f = f ∙ rw (x, e) (go (j - 1) (omega arith))
      where
        go : (i : ℕ) → j ≡ suc i → lub_of (get_or (classes_of (tables_in (open_of c n s))) i 0) (lub_left j) ≡ lub_left i
        go i y = unfold lub_left in rw (y, drop-cons (classes_of (tables_in (open_of c n s))) i 0 (omega (arith, classes_number)))

    pub lub_done : j ≤ 0 → k ≡ lub_all (classes_of (tables_in (open_of c n s)))
    unfolding lub_left
    lub_done h = let e : j ≡ 0 = omega arith in x ∙ rw e

pub ruleset blocks = (lub_begin, lub_again, lub_done, rules)

-- the same of the tables that a block opens
module _ (c : List ℕ) (n : ℕ) (s : Scope) (ts : List TabRef) (e : open_of c n s ≡ opened ts) where
  fields : {A : Type 0} (f : Table → A) (us : List TabRef) → map f (map (λ t. t.table) us) ≡ map (λ t. f t.table) us
  fields f [] = refl
  fields f (u ∷ us) = ap (λ l. f u.table ∷ l) (fields f us)

  pub rows_opened : rows_of (tables_in (open_of c n s)) ≡ map (λ t. t.table.row) ts
  unfolding tables_in
  rows_opened = rw e (fields (λ t. t.row) ts)

  pub classes_opened : classes_of (tables_in (open_of c n s)) ≡ map (λ t. t.table.tclass) ts
  unfolding tables_in
  classes_opened = rw e (fields (λ t. t.tclass) ts)
