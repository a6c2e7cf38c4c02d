-- The lists that a catalogue says, by number: its tables by their records, a table's columns by theirs, and what holds of each in an accepted one.
-- Assumes nothing.
use Prim.Native.Nat.{ℕ, zero, suc, ◌+◌, ◌-◌, ◌/◌, ◌%◌, ◌<◌, ◌≤◌}
use mathlib.Core.Path.{◌≡◌, refl, sym, ap, ◌∙◌}
use mathlib.Core.Bool.{Bool, true, false, cond}
use mathlib.Core.List.{List, [], ◌∷◌}
use native.Mathlib.Omega.{arith}
use native.Mathlib.Decide.{dec_lt}
use borrow.Author.Tests.{eqb-true, eq-eqb, ne_eqb}
use lib.Dec.{eqb}
use lib.ListN.{length, get_or}
use Rattle.word.specs.Header.{count_at}
use Rattle.word.specs.Record.{kind_at, op_at, a_at, b_at, c_at}
use Rattle.class.specs.Info.{info_by}
use Rattle.cell.specs.Res.{Res, stuck, done, nth}
use Rattle.cell.specs.Types.{type_by, digits_rule, in_rule}
use Rattle.cell.specs.declared.Type.TheVariants.{Fixed}
use Rattle.cell.proofs.Typing.{by_in_rule, by_fixed_digits}
use Rattle.catalogue.specs.Fault.{columns_before, has_column}
use Rattle.catalogue.specs.Tables.{Column, Table, column_at, cols_from, table_at, tables_from, catalogue_of, TabRef, later, table_named}
use Rattle.catalogue.specs.Starts.{starts_from, starts_of, StartsAre}
use Rattle.catalogue.proofs.Faultless.{TableOk, ColumnOk, table_ok, column_ok, two_kinds}
use Rattle.catalogue.proofs.Meaning.{Clean, Accepted}
use Rattle.catalogue.proofs.Places.{start_is, starts_number}

-- ---- elements by number

-- a number that has an element is below the length
nth_below : {A : Type 0} (xs : List A) (j : ℕ) (x : A) → nth xs j ≡ done x → j < length xs
unfolding nth
nth_below [] j x e = absurd (let z : ◌≡◌ {A = ℕ} 0 1 = cc in omega arith)
nth_below (y ∷ ys) zero x e = omega arith
nth_below (y ∷ ys) (suc j) x e = omega (arith, nth_below ys j x e)

same_done : {A : Type 0} {x y : A} → done x ≡ done y → x ≡ y
same_done e = cc

-- ---- a column ahead

module _ (c : List ℕ) where
  column_first : (k i : ℕ) → has_column c k i ≡ true → kind_at c i ≡ 1 → ⊥
  unfolding has_column
  column_first zero i e h = let z : ◌≡◌ {A = ℕ} 0 1 = cc in omega arith
  column_first (suc k) i e h = let d : false ≡ true = rw h at e in let z : ◌≡◌ {A = ℕ} 0 1 = cc in omega arith

  records_left : (k i : ℕ) → has_column c k i ≡ true → 0 < k
  unfolding has_column
  records_left zero i e = absurd (let z : ◌≡◌ {A = ℕ} 0 1 = cc in omega arith)
  records_left (suc k) i e = omega arith

-- ---- the fields of a table and of a column

module _ (c : List ℕ) (i : ℕ) where
  pub cname_is : (column_at c i).cname ≡ a_at c i
  unfolding column_at
  cname_is = refl

  pub ty_is : (column_at c i).ty ≡ type_by (c_at c i / 256) (c_at c i % 256)
  unfolding column_at
  ty_is = refl

  pub info_is : (column_at c i).info ≡ info_by (op_at c i) (b_at c i)
  unfolding column_at
  info_is = refl

  module _ (n : ℕ) where
    pub tname_is : (table_at c n i).tname ≡ a_at c i
    unfolding table_at
    tname_is = refl

    pub tclass_is : (table_at c n i).tclass ≡ c_at c i
    unfolding table_at
    tclass_is = refl

    pub row_is : (table_at c n i).row ≡ info_by (op_at c i) (b_at c i)
    unfolding table_at
    row_is = refl

    pub cols_are : (table_at c n i).cols ≡ cols_from c (n - (i + 1)) (i + 1)
    unfolding table_at
    cols_are = refl

-- ---- the columns that stand from a record on

module _ (c : List ℕ) where
  -- a column and those after it; none where no column stands, and none at the end of n records
  pub cols_next : (n i : ℕ) → i < n → kind_at c i ≡ 2 → cols_from c (n - i) i ≡ column_at c i ∷ cols_from c (n - (i + 1)) (i + 1)
  unfolding cols_from
  cols_next n i h e = let d : n - i ≡ suc (n - (i + 1)) = omega arith in rw (d, eq-eqb (kind_at c i) 2 e)

  pub cols_stop : (k i : ℕ) → (kind_at c i ≡ 2 → ⊥) → cols_from c k i ≡ []
  unfolding cols_from
  cols_stop zero i e = refl
  cols_stop (suc k) i e = rw (ne_eqb (kind_at c i) 2 e)

  pub cols_end : (n i : ℕ) → n ≤ i → cols_from c (n - i) i ≡ []
  unfolding cols_from
  cols_end n i h = let d : n - i ≡ 0 = omega arith in rw d

  -- they stand within the records
  pub cols_within : (k i : ℕ) → length (cols_from c k i) ≤ k
  unfolding cols_from
  cols_within zero i = omega arith
  cols_within (suc k) i = go (eqb (kind_at c i) 2) (cols_within k (i + 1))
    where
      go : (b : Bool) → length (cols_from c k (i + 1)) ≤ k → length (cond b (column_at c i ∷ cols_from c k (i + 1)) []) ≤ suc k
      go true h = omega arith
      go false h = omega arith

  -- the column of number j is that of record i + j
  pub column_at_lem : (k i j : ℕ) → j < length (cols_from c k i) → nth (cols_from c k i) j ≡ done (column_at c (i + j))
  unfolding cols_from nth
  column_at_lem zero i j h = absurd (omega arith)
  column_at_lem (suc k) i j h = go (eqb (kind_at c i) 2) j h (column_at_lem k (i + 1))
    where
      go : (b : Bool) (j : ℕ) → j < length (cond b (column_at c i ∷ cols_from c k (i + 1)) [])
          → ((l : ℕ) → l < length (cols_from c k (i + 1)) → nth (cols_from c k (i + 1)) l ≡ done (column_at c (i + 1 + l)))
          → nth (cond b (column_at c i ∷ cols_from c k (i + 1)) []) j ≡ done (column_at c (i + j))
      go true zero h f = unfold nth in let d : i + 0 ≡ i = omega arith in rw d
      go true (suc j) h f = unfold nth in let d : i + suc j ≡ i + 1 + j = omega arith in rw d (f j (omega arith))
      go false j h f = absurd (omega arith)

  pub column_kind : (k i j : ℕ) → j < length (cols_from c k i) → kind_at c (i + j) ≡ 2
  unfolding cols_from
  column_kind zero i j h = absurd (omega arith)
  column_kind (suc k) i j h = go (eqb (kind_at c i) 2) refl j h (column_kind k (i + 1))
    where
      go : (b : Bool) → eqb (kind_at c i) 2 ≡ b → (j : ℕ) → j < length (cond b (column_at c i ∷ cols_from c k (i + 1)) [])
          → ((l : ℕ) → l < length (cols_from c k (i + 1)) → kind_at c (i + 1 + l) ≡ 2) → kind_at c (i + j) ≡ 2
      go true e zero h f = let d : i + 0 ≡ i = omega arith in ap (kind_at c) d ∙ eqb-true (kind_at c i) 2 e
      go true e (suc j) h f = let d : i + suc j ≡ i + 1 + j = omega arith in ap (kind_at c) d ∙ f j (omega arith)
      go false e j h f = absurd (omega arith)

  -- ---- the columns of a table whose record is i, of n without a fault
  module _ (n i : ℕ) (table : kind_at c i ≡ 1) where
    columns_passed : (k j : ℕ) → j ≤ length (cols_from c k (i + 1)) → columns_before c (i + 1 + j) ≡ j
    unfolding columns_before
    columns_passed k zero h = let d : i + 1 + 0 ≡ suc i = omega arith in rw (d, eq-eqb (kind_at c i) 1 table)
    columns_passed k (suc j) h =
        let d : i + 1 + suc j ≡ suc (i + 1 + j) = omega arith in
        let e : kind_at c (i + 1 + j) ≡ 2 = column_kind k (i + 1) j (omega arith) in
        rw (d, e, columns_passed k j (omega arith)) (omega arith)

    module _ (inside : i < n) (clean : Clean c n 0 n) where
      pub columns_few : length (cols_from c (n - (i + 1)) (i + 1)) ≤ 64
      columns_few = by (dec_lt 64 (length (cols_from c (n - (i + 1)) (i + 1))))
        where
          by : Dec (64 < length (cols_from c (n - (i + 1)) (i + 1))) → length (cols_from c (n - (i + 1)) (i + 1)) ≤ 64
          by (yes l) = absurd (omega (
            arith,
            columns_passed (n - (i + 1)) 64 (omega arith),
            (column_ok c n (i + 1 + 64) (clean (i + 1 + 64) (omega arith) (omega (arith, cols_within (n - (i + 1)) (i + 1)))) (column_kind (n - (i + 1)) (i + 1) 64 l)).few,
          ))
          by (no g) = omega arith

      pub columns_some : 1 ≤ length (cols_from c (n - (i + 1)) (i + 1))
      columns_some = by (dec_lt (i + 1) n)
        where
          has : has_column c (n - (i + 1)) (i + 1) ≡ true
          has = (table_ok c n i (clean i (omega arith) inside) table).column

          by : Dec (i + 1 < n) → 1 ≤ length (cols_from c (n - (i + 1)) (i + 1))
          by (yes l) =
              two_kinds c n (i + 1) (clean (i + 1) (omega arith) l)
              (λ e. absurd (column_first c (n - (i + 1)) (i + 1) has e))
              (λ e. rw (cols_next n (i + 1) l e) (omega arith))
          by (no g) = absurd (omega (arith, records_left c (n - (i + 1)) (i + 1) has))

-- ---- the tables

module _ (c : List ℕ) where
  -- the table of number j is that of the record of number j
  pub table_at_lem : (n k i j : ℕ) → j < length (starts_from c k i) → nth (tables_from c n k i) j ≡ done (table_at c n (get_or (starts_from c k i) j 0))
  unfolding starts_from tables_from nth
  table_at_lem n zero i j h = absurd (omega arith)
  table_at_lem n (suc k) i j h = go (eqb (kind_at c i) 1) j h (table_at_lem n k (i + 1))
    where
      go : (b : Bool) (j : ℕ) → j < length (cond b (i ∷ starts_from c k (i + 1)) (starts_from c k (i + 1)))
          → ((l : ℕ) → l < length (starts_from c k (i + 1)) → nth (tables_from c n k (i + 1)) l ≡ done (table_at c n (get_or (starts_from c k (i + 1)) l 0)))
          → nth (cond b (table_at c n i ∷ tables_from c n k (i + 1)) (tables_from c n k (i + 1))) j ≡ done (table_at c n (get_or (cond b (i ∷ starts_from c k (i + 1)) (starts_from c k (i + 1))) j 0))
      go true zero h f = unfold nth in refl
      go true (suc j) h f = unfold nth in f j (omega arith)
      go false j h f = f j h

  pub table_of_start : (j : ℕ) → j < length (starts_of c) → nth (catalogue_of c) j ≡ done (table_at c (count_at c) (get_or (starts_of c) j 0))
  unfolding starts_of catalogue_of
  table_of_start j h = table_at_lem (count_at c) (count_at c) 0 j h

  -- the same by the array that a caller holds
  pub table_of_slot : (n tables : ℕ) (ss : List ℕ) → StartsAre c n tables ss → (j : ℕ) → j < tables → nth (tables_from c n n 0) j ≡ done (table_at c n (get_or ss j 0))
  table_of_slot n tables ss a j h = rw (start_is c n tables ss a j h) (table_at_lem n n 0 j (omega (arith, starts_number c n tables ss a)))

  -- n records, where n is the count, say the catalogue
  pub catalogue_is : (n : ℕ) → n ≡ count_at c → tables_from c n n 0 ≡ catalogue_of c
  unfolding catalogue_of
  catalogue_is n e = rw e

-- the table of a name is the one of its number, and has the name
pub named_is : (name : ℕ) (ts : List Table) (r : TabRef) → table_named name ts ≡ done r → (nth ts r.num ≡ done r.table) × (r.table.tname ≡ name)
unfolding table_named nth
named_is name [] r e = absurd (let z : ◌≡◌ {A = ℕ} 0 1 = cc in omega arith)
named_is name (t ∷ ts) r e = go (eqb t.tname name) refl (table_named name ts) e (named_is name ts)
  where
    go : (b : Bool) → eqb t.tname name ≡ b → (more : Res TabRef) → cond b (done (record { num = 0; table = t })) (later more) ≡ done r
        → ((s : TabRef) → more ≡ done s → (nth ts s.num ≡ done s.table) × (s.table.tname ≡ name))
        → (nth (t ∷ ts) r.num ≡ done r.table) × (r.table.tname ≡ name)
    go true q more e f = unfold nth in
        let d : record { num = 0; table = t } ≡ r = cc in
        rw (← d) (refl, eqb-true t.tname name q)
    go false q stuck e f = absurd (unfold later in let z : ◌≡◌ {A = ℕ} 0 1 = cc in omega arith)
    go false q (done s) e f = unfold nth later in
        let d : record { num = suc s.num; table = s.table } ≡ r = cc in
        rw (← d) (f s refl)

-- ---- tables and columns of an accepted catalogue

-- the table T stands in c: its record, and what holds of it
pub record TableStands (c : List ℕ) (T : Table) : Type 0 where
  pub place : ℕ
  pub within : place < count_at c
  pub kind : kind_at c place ≡ 1
  pub table : T ≡ table_at c (count_at c) place
  pub ok : TableOk c (count_at c) place
  pub some_columns : 1 ≤ length T.cols
  pub few_columns : length T.cols ≤ 64

-- the column stands in c: its record, and what holds of it
pub record ColumnStands (c : List ℕ) (col : Column) : Type 0 where
  pub place : ℕ
  pub within : place < count_at c
  pub kind : kind_at c place ≡ 2
  pub column : col ≡ column_at c place
  pub ok : ColumnOk c place

module _ (c : List ℕ) (t : ℕ) (a : Accepted c t) where
  pub table_stands : (j : ℕ) (T : Table) → nth (catalogue_of c) j ≡ done T → TableStands c T
  table_stands j T e =
      let l : j < t = omega (arith, nth_below (catalogue_of c) j T e, a.catalogue_length) in
      let m : j < length (starts_of c) = omega (arith, a.starts_length) in
      let i = get_or (starts_of c) j 0 in
      let w : i < count_at c = a.starts_within j l in
      let k : kind_at c i ≡ 1 = a.starts_are_tables j l in
      let d : T ≡ table_at c (count_at c) i = same_done (sym e ∙ table_of_start c j m) in
      let s : T.cols ≡ cols_from c (count_at c - (i + 1)) (i + 1) = ap (λ x. x.cols) d ∙ cols_are c i (count_at c) in
      record {
        place = i;
        within = w;
        kind = k;
        table = d;
        ok = table_ok c (count_at c) i (a.no_fault i (omega arith) w) k;
        some_columns = rw s (columns_some c (count_at c) i k w a.no_fault);
        few_columns = rw s (columns_few c (count_at c) i k w a.no_fault);
      }

  pub column_stands : (T : Table) → TableStands c T → (j : ℕ) (col : Column) → nth T.cols j ≡ done col → ColumnStands c col
  column_stands T s j col e =
      let i = s.place in
      let f : T.cols ≡ cols_from c (count_at c - (i + 1)) (i + 1) = ap (λ x. x.cols) s.table ∙ cols_are c i (count_at c) in
      let g : nth (cols_from c (count_at c - (i + 1)) (i + 1)) j ≡ done col = sym (ap (λ l. nth l j) f) ∙ e in
      let l : j < length (cols_from c (count_at c - (i + 1)) (i + 1)) = nth_below _ j col g in
      let w : i + 1 + j < count_at c = omega (arith, s.within, cols_within c (count_at c - (i + 1)) (i + 1)) in
      let k : kind_at c (i + 1 + j) ≡ 2 = column_kind c (count_at c - (i + 1)) (i + 1) j l in
      record {
        place = i + 1 + j;
        within = w;
        kind = k;
        column = same_done (sym g ∙ column_at_lem c (count_at c - (i + 1)) (i + 1) j l);
        ok = column_ok c (count_at c) (i + 1 + j) (a.no_fault (i + 1 + j) (omega arith) w) k;
      }

-- the type of a column is in rule; a fixed one has digits in rule
pub column_in_rule : (c : List ℕ) (col : Column) → ColumnStands c col → in_rule col.ty ≡ true
column_in_rule c col s = rw (s.column, ty_is c s.place) (by_in_rule _ _ s.ok.type_ruled)

pub column_digits : (c : List ℕ) (col : Column) (p q : ℕ) → ColumnStands c col → col.ty ≡ Fixed p q → digits_rule p q ≡ true
column_digits c col p q s e =
    by_fixed_digits (c_at c s.place / 256) (c_at c s.place % 256) p q s.ok.type_ruled
    (sym (ap (λ x. x.ty) s.column ∙ ty_is c s.place) ∙ e)
