-- What accepted files say: an accepted view's constants are of their types, and a store's classes have 16 bits.
-- Assumes nothing.
use Prim.Native.Nat.{ℕ, zero, suc, ◌+◌, ◌-◌, ◌/◌, ◌%◌, ◌<◌}
use mathlib.Core.Path.{◌≡◌, refl, subst}
use mathlib.Core.Bool.{Bool, true, false, cond, So}
use mathlib.Core.List.{List, [], ◌∷◌}
use native.Mathlib.Omega.{arith}
use borrow.Author.Tests.{lt-ltb}
use lib.Dec.{eqb, ltb}
use Rattle.word.specs.Bytes.{u16_at}
use Rattle.word.specs.Header.{count_at}
use Rattle.word.specs.Record.{kind_at, c_at}
use Rattle.cell.specs.Types.{type_by}
use Rattle.cell.specs.declared.Cell.{Cell}
use Rattle.catalogue.specs.Tables.{Table}
use Rattle.store.specs.Layout.{cell_place, place_after, row_size}
use Rattle.store.specs.Rows.{Row, All, RowOk, StoreOk, cell_at, cells_from, row_at, rows_from, table_rows, tables_rows, store_of}
use Rattle.view.specs.Ast.{Exp, Block, Parsed, ok, refused, and_then}
use Rattle.view.specs.Parse.{many, parse_value, parse_view}
use Rattle.view.proofs.Whole.{view_ok}
use Rattle.reading.specs.Demands.{Bytes}
use Rattle.reading.proofs.Lists.{all2_and, all2_imp}
use Rattle.reading.proofs.WellTyped.{ConstsOk, value_consts}
use Rattle.reading.proofs.Scopes.{RowGood, StoreGood}
use Rattle.reading.proofs.Whole.{BlockOk}

-- ---- the view's constants are of their types

-- whatever a parser reads
abbrev Reads : {A : Type 0} → (A → Type 0) → Parsed A → Type 0
Reads P (ok a next) = P a
Reads P (refused number place) = Unit {0}

then_reads : {A B : Type 0} (P : A → Type 0) (Q : B → Type 0) (p : Parsed A) (f : A → ℕ → Parsed B) → Reads P p →
    ((a : A) (next : ℕ) → P a → Reads Q (f a next)) → Reads Q (and_then p f)
unfolding and_then
then_reads P Q (ok a next) f h k = k a next h
then_reads P Q (refused number place) f h k = tt

many_reads : {A : Type 0} (P : A → Type 0) (p : ℕ → Parsed A) → ((at : ℕ) → Reads P (p at)) → (count at : ℕ) → Reads (All P) (many p count at)
unfolding many
many_reads P p h zero at = tt
many_reads P p h (suc count) at =
    then_reads P (All P) (p at) _ (h at) (λ x next a.
    then_reads (All P) (All P) (many p count next) _ (many_reads P p h count next) (λ xs end b. (a, b)))

value_reads : (v : List ℕ) → Bytes v → (n d at : ℕ) → Reads ConstsOk (parse_value v n d at)
value_reads v h n d at = go (parse_value v n d at) refl
  where
    go : (p : Parsed Exp) → parse_value v n d at ≡ p → Reads ConstsOk p
    go (ok e k) f = value_consts v h n d at f
    go (refused number place) f = tt

pub view_consts : (v : List ℕ) (b : Block) (records : ℕ) → Bytes v → parse_view v ≡ ok b records → BlockOk b
view_consts v b records h e =
    let (t, m) = view_ok v e in
    let w = t.whole in
    let p : t.block ≡ b = cc in
    subst BlockOk p (
      value_consts v h (count_at v) 15 _ t.parts.first,
      subst (Reads (All ConstsOk)) t.parts.rest (many_reads ConstsOk (parse_value v (count_at v) 15) (value_reads v h (count_at v) 15) t.values t.parts.mid),
    )

-- ---- the store's classes have 16 bits

abbrev Small : Cell → Type 0
Small x = So (ltb x.class 65536)

-- 16 bits of bytes
word_small : (s : List ℕ) → Bytes s → (at : ℕ) → u16_at s at < 65536
word_small s h at = omega (arith, h at, h (at + 1))

module _ (c s : List ℕ) (h : Bytes s) where
  cells_small : (k i at j : ℕ) → All Small (cells_from c s k i at j)
  unfolding cells_from cell_at
  cells_small zero i at j = tt
  cells_small (suc k) i at j = go (eqb (kind_at c i) 2) (cells_small k (i + 1) at (j + 1))
    where
      go : (z : Bool) → All Small (cells_from c s k (i + 1) at (j + 1)) →
          All Small (cond z (cell_at s (type_by (c_at c i / 256) (c_at c i % 256)) (cell_place at j) ∷ cells_from c s k (i + 1) at (j + 1)) [])
      go true r = (lt-ltb _ 65536 (word_small s h (cell_place at j + 2)), r)
      go false r = tt

  rows_small : (n i r at size : ℕ) → All (λ x. All Small x.cells) (rows_from c n s i r at size)
  unfolding rows_from row_at
  rows_small n i zero at size = tt
  rows_small n i (suc r) at size = (cells_small (n - (i + 1)) (i + 1) at 0, rows_small n i r (at + size) size)

  tables_small : (n k i at : ℕ) → All (λ rs. All (λ x. All Small x.cells) rs) (tables_rows c n s k i at)
  unfolding tables_rows table_rows
  tables_small n zero i at = tt
  tables_small n (suc k) i at = go (eqb (kind_at c i) 1) (tables_small n k (i + 1) (place_after c n s i at))
    where
      go : (z : Bool) → All (λ rs. All (λ x. All Small x.cells) rs) (tables_rows c n s k (i + 1) (place_after c n s i at)) →
          All (λ rs. All (λ x. All Small x.cells) rs)
          (cond z (table_rows c n s i at ∷ tables_rows c n s k (i + 1) (place_after c n s i at)) (tables_rows c n s k (i + 1) (place_after c n s i at)))
      go true r = (rows_small n i (u16_at s at) (at + 2) (row_size c n i), r)
      go false r = r

  all_and : (t : Table) (rs : List Row) → All (RowOk t) rs → All (λ x. All Small x.cells) rs → All (RowGood t) rs
  all_and t [] p q = tt
  all_and t (r ∷ rs) p q = ((p.0, q.0), all_and t rs p.1 q.1)

  pub store_good : (cat : List Table) → StoreOk cat (store_of c s) → StoreGood cat (store_of c s)
  unfolding store_of
  store_good cat g =
      all2_imp (λ t rs. All (RowOk t) rs × All (λ x. All Small x.cells) rs) (λ t rs. All (RowGood t) rs) (λ t rs p. all_and t rs p.0 p.1) cat (store_of c s)
      (all2_and (λ t rs. All (RowOk t) rs) (λ rs. All (λ x. All Small x.cells) rs) cat (store_of c s) g (tables_small (count_at c) (count_at c) 0 8))
