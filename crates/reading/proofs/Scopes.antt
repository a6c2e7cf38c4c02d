-- When what is known of the scopes, the frames of the reading and the frames of the run match; a reference that is found is found in both.
-- Assumes nothing.
use Prim.Native.Nat.{ℕ, zero, suc}
use mathlib.Core.Path.{◌≡◌, refl, subst}
use mathlib.Core.Bool.{true, So}
use mathlib.Core.List.{List, [], ◌∷◌, map}
use mathlib.Core.Option.{Option, some}
use native.Mathlib.Omega.{arith}
use lib.ListN.{get_or}
use lib.Dec.{ltb}
use Rattle.class.specs.Class.{Dominates, lub_all}
use Rattle.class.specs.declared.Info.{Info}
use Rattle.class.specs.declared.Info.TheVariants.{Fixed, Bound}
use Rattle.cell.specs.Res.{done, bind, or_else, nth, map_res}
use Rattle.cell.specs.Types.{in_rule}
use Rattle.cell.specs.Values.{HasTy}
use Rattle.cell.specs.declared.Type.{«Type» as Ty}
use Rattle.cell.specs.declared.Value.{Value}
use Rattle.cell.specs.declared.Cell.{Cell}
use Rattle.catalogue.specs.Tables.{Table, Column, TabRef}
use Rattle.store.specs.Rows.{Row, All, All2, CellOk, RowOk}
use Rattle.store.proofs.Lists.{all_at}
use Rattle.scope.specs.Scopes.{block, local, column}
use Rattle.tree.specs.Trans.{nums}
use Rattle.run.specs.Run as machine
use Rattle.run.specs.Run.{rows_for}
use Rattle.reading.specs.Reading.{Frame, rows, known, scope_of, as_rows, as_known, row_in, cell_in, known_in, rows_over}
use Rattle.reading.proofs.Lists.{not_stuck, nth_all2, product_all}
use Rattle.reading.proofs.Names.{TabsOk, Stands}
use Rattle.reading.proofs.WellTyped.{TablesRule, ScopesRule}

-- a row that keeps the rules of its table, each class of 16 bits
abbrev pub RowGood : Table → Row → Type 0
RowGood t r = RowOk t r × All (λ x. So (ltb x.class 65536)) r.cells

abbrev pub StoreGood : List Table → List (List Row) → Type 0
StoreGood cat st = All2 (λ t rs. All (RowGood t) rs) cat st

abbrev pub tables_of : List TabRef → List Table
tables_of ts = map (λ t. t.table) ts

-- P is what is asked of the class that the run keeps of a local, by what is known of it and what its value read
pub data Match (P : Info → List ℕ → Option ℕ → Type 0) : List Info → List Frame → List machine.Frame → Type 0 where
  m_nil : Match P [] [] []
  m_rows : {i : Info} {is : List Info} {ρ : List Frame} {σ : List machine.Frame} {ts : List TabRef} {rs : List Row} →
      TablesRule (tables_of ts) → All2 RowGood (tables_of ts) rs → Match P is ρ σ → Match P (i ∷ is) (rows ts rs ∷ ρ) (machine.Frame.rows rs ∷ σ)
  m_known : {i : Info} {is : List Info} {ρ : List Frame} {σ : List machine.Frame} {n : ℕ} {t : Ty} {v : Value} {xs : List ℕ} {o : Option ℕ} →
      HasTy t v → in_rule t ≡ true → P i xs o → Match P is ρ σ → Match P (i ∷ is) (known n t v xs ∷ ρ) (machine.Frame.local v o ∷ σ)

-- nothing is asked: enough for data
abbrev pub Free : Info → List ℕ → Option ℕ → Type 0
Free i xs o = Unit {0}

-- a fixed class is the lub of all that was read; else the run keeps that lub, and the bound dominates it
abbrev pub Kept : Info → List ℕ → Option ℕ → Type 0
Kept (Fixed k) xs o = lub_all xs ≡ k
Kept (Bound b) xs o = (o ≡ some (lub_all xs)) × Dominates b (lub_all xs)

module _ {P : Info → List ℕ → Option ℕ → Type 0} where
  pub scopes_rule : {is : List Info} {ρ : List Frame} {σ : List machine.Frame} → Match P is ρ σ → ScopesRule (map scope_of ρ)
  unfolding scope_of
  scopes_rule m_nil = tt
  scopes_rule (m_rows r h m) = (r, scopes_rule m)
  scopes_rule (m_known h r p m) = (r, scopes_rule m)

  pub weaken : {is : List Info} {ρ : List Frame} {σ : List machine.Frame} → Match P is ρ σ → Match Free is ρ σ
  weaken m_nil = m_nil
  weaken (m_rows r h m) = m_rows r h (weaken m)
  weaken (m_known h r p m) = m_known h r tt (weaken m)

  frame_rows : {is : List Info} {ρ : List Frame} {σ : List machine.Frame} → Match P is ρ σ → (a : ℕ) (ts : List Table) → nth (map scope_of ρ) a ≡ done (block ts) →
      (us : List TabRef) × (rs : List Row) × (nth ρ a ≡ done (rows us rs)) × (nth σ a ≡ done (machine.Frame.rows rs)) × All2 RowGood ts rs
  unfolding nth scope_of
  frame_rows m_nil a ts e = absurd (not_stuck e)
  frame_rows (m_rows {ts = us} {rs = rs} r h m) zero ts e = let q : tables_of us ≡ ts = cc in (us, rs, refl, refl, subst (λ z. All2 RowGood z rs) q h)
  frame_rows (m_rows r h m) (suc a) ts e = frame_rows m a ts e
  frame_rows (m_known h r p m) zero ts e = let z : ◌≡◌ {A = ℕ} 0 1 = cc in absurd (omega arith)
  frame_rows (m_known h r p m) (suc a) ts e = frame_rows m a ts e

  pub frame_known : {is : List Info} {ρ : List Frame} {σ : List machine.Frame} → Match P is ρ σ → (a n : ℕ) (t : Ty) → nth (map scope_of ρ) a ≡ done (local n t) →
      (v : Value) × (xs : List ℕ) × (o : Option ℕ) × (known_in ρ a ≡ done (v, xs)) × (machine.local_in σ a ≡ done (v, o)) × HasTy t v × P (get_or is a (Fixed 0)) xs o
  unfolding nth scope_of bind as_known known_in machine.as_local machine.local_in
  frame_known m_nil a n t e = absurd (not_stuck e)
  frame_known (m_rows r h m) zero n t e = let z : ◌≡◌ {A = ℕ} 0 1 = cc in absurd (omega arith)
  frame_known (m_rows r h m) (suc a) n t e = frame_known m a n t e
  frame_known (m_known {t = u} {v = v} {xs = xs} {o = o} h r p m) zero n t e =
      let q : u ≡ t = cc in
      (v, xs, o, refl, refl, subst (λ z. HasTy z v) q h, p)
  frame_known (m_known h r p m) (suc a) n t e = frame_known m a n t e

  -- the row that a match names
  pub row_found : {is : List Info} {ρ : List Frame} {σ : List machine.Frame} → Match P is ρ σ → (a b c : ℕ) (t : Table) (k : Column) →
      Stands (map scope_of ρ) (column a b c t k) →
      (r : Row) × (row_in ρ a b ≡ done r) × (machine.row_in σ a b ≡ done r) × RowGood t r × (nth t.cols c ≡ done k)
  unfolding bind row_in as_rows machine.row_in machine.as_rows
  row_found {ρ = ρ} {σ = σ} m a b c t k (ts, e₁, e₂, e₃) =
      let (us, rs, p, q, h) = frame_rows m a ts e₁ in
      let (r, f, ok) = nth_all2 RowGood ts rs b t h e₂ in
      (r, rw (p, f), rw (q, f), ok, e₃)

  -- the cell that a match names
  pub cell_found : {is : List Info} {ρ : List Frame} {σ : List machine.Frame} → Match P is ρ σ → (a b c : ℕ) (t : Table) (k : Column) →
      Stands (map scope_of ρ) (column a b c t k) →
      (x : Cell) × (cell_in ρ a b c ≡ done x) × (machine.cell_in σ a b c ≡ done x) × CellOk k x × So (ltb x.class 65536)
  unfolding bind cell_in machine.cell_in
  cell_found {ρ = ρ} {σ = σ} m a b c t k s =
      let (r, p, q, ok, e) = row_found m a b c t k s in
      let (x, f, g) = nth_all2 CellOk t.cols r.cells c k ok.0.1 e in
      (x, rw (p, f), rw (q, f), g, all_at (λ y. So (ltb y.class 65536)) r.cells ok.1 c x f)

-- ---- the tables of a block are in the store, and the rows of the product are accepted

abbrev rows_of : List (List Row) → List TabRef → List (List Row)
rows_of st ts = map (λ t. or_else [] (nth st t.num)) ts

tables_found : (cat : List Table) (st : List (List Row)) → StoreGood cat st → (ts : List TabRef) → TabsOk cat ts →
    (map_res (nth st) (nums ts) ≡ done (rows_of st ts)) × All2 (λ t rs. All (RowGood t) rs) (tables_of ts) (rows_of st ts)
unfolding map_res bind or_else
tables_found cat st s [] h = (refl, tt)
tables_found cat st s (t ∷ ts) h =
    let (rs, e, ok) = nth_all2 (λ t rs. All (RowGood t) rs) cat st t.num t.table s h.0 in
    let (es, oks) = tables_found cat st s ts h.1 in
    rw (e, es) (refl, (ok, oks))

pub block_ok : (cat : List Table) (st : List (List Row)) → StoreGood cat st → (ts : List TabRef) → TabsOk cat ts →
    (rows_for st (nums ts) ≡ done (rows_over st ts)) × All (λ rs. All2 RowGood (tables_of ts) rs) (rows_over st ts)
unfolding rows_for rows_over bind
block_ok cat st s ts h =
    let (es, oks) = tables_found cat st s ts h in
    (rw es, product_all RowGood (tables_of ts) (rows_of st ts) oks)
