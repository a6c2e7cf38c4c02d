-- A view that the check took: what a pass over it may start from. And a view that it refused.
-- Assumes nothing.
use Prim.Native.Nat.{ℕ, ◌+◌, ◌*◌, ◌≤◌}
use mathlib.Core.Path.{◌≡◌, refl, sym, ap, ◌∙◌}
use mathlib.Core.Bool.{◌&&◌}
use mathlib.Core.List.{List}
use lib.ListN.{length}
use lib.Dec.{eqb, leb}
use borrow.Author.Tests.{eqb-true, leb-true}
use Rattle.word.specs.Bytes.{within}
use Rattle.word.specs.Refusal.{Checked, fine, refusal}
use Rattle.word.specs.Header.{drq, headed, count_at}
use Rattle.view.specs.Ast.{Block, ok, refused, WasRead}
use Rattle.view.specs.Record.{node_at, slot_of}
use Rattle.view.specs.Parse.{enter, parse_block, parse_value, root_node, parse_root, parse_view, place_of, check_of}
use Rattle.view.specs.declared.Node.{Node}
use Rattle.view.specs.declared.Node.TheVariants.{Select}
use Rattle.view.proofs.Laws.{and_left, and_right, cond_refused, then_ok, enter_ok, place_fine, place_refusal}
use Rattle.view.proofs.Says.{select_few}
use Rattle.view.proofs.Shapes.{slot_select}
use Rattle.view.proofs.Read.{InBlock, block_ok, was_read}

-- an accepted view: its count and length, its SELECT, its tree
pub record Taken (v : List ℕ) : Type 0 where
  pub some : 1 ≤ count_at v
  pub few : count_at v ≤ 1024
  pub long : length v ≡ 8 + 8 * count_at v
  pub tables : ℕ
  pub values : ℕ
  pub root : node_at v 0 ≡ Select tables values
  pub some_tables : 1 ≤ tables
  pub few_tables : tables ≤ 4
  pub some_values : 1 ≤ values
  pub few_values : values ≤ 32
  pub block : Block
  pub read : parse_block v (count_at v) 15 (parse_value v (count_at v) 15) tables values 1 ≡ ok block (count_at v)
  pub parts : InBlock v (count_at v) (parse_value v (count_at v) 15) tables values 1 block (count_at v)
  pub whole : parse_view v ≡ ok block (count_at v)

-- the root, from the parser's ok
record Rooted (v : List ℕ) (n : ℕ) (b : Block) (m : ℕ) : Type 0 where
  tables : ℕ
  values : ℕ
  node : node_at v 0 ≡ Select tables values
  read : parse_block v n 15 (parse_value v n 15) tables values 1 ≡ ok b n
  end : m ≡ n

root_ok : (v : List ℕ) (n : ℕ) {b : Block} {m : ℕ} → parse_root v n ≡ ok b m → Rooted v n b m
unfolding parse_root root_node
root_ok v n {b} {m} e =
    let u = then_ok (enter v n 3 0) _ e in
    let g = enter_ok v n 3 0 u.2 in
    let x = then_ok (root_node v n u.0) _ u.3 in
    let y = cond_refused (eqb x.1 n) 4 x.1 x.3 in
    let z = slot_select u.0 g.2 in
    let end : x.1 ≡ n = eqb-true _ _ y.0 in
    let same : x.0 ≡ b = (let h = y.1 in cc) in
    let last : x.1 ≡ m = (let h = y.1 in cc) in
    record { tables = z.0; values = z.1; node = g.1 ∙ z.2; read = ap (root_node v n) (sym z.2) ∙ x.2 ∙ ap (λ (c : Block). ok c x.1) same ∙ ap (ok b) end; end = sym last ∙ end }

pub view_ok : (v : List ℕ) {b : Block} {m : ℕ} → parse_view v ≡ ok b m → Taken v × (m ≡ count_at v)
unfolding parse_view
view_ok v {b} {m} e =
    let s = cond_refused (headed drq v) 1 0 e in
    let t = cond_refused (within 1 1024 (count_at v) && eqb (length v) (8 + 8 * count_at v)) 2 0 s.1 in
    let i = and_left (within 1 1024 (count_at v)) (eqb (length v) (8 + 8 * count_at v)) t.0 in
    let r = root_ok v (count_at v) t.1 in
    let f = select_few v 0 refl r.node in (
      record {
        some = leb-true 1 (count_at v) (and_left (leb 1 (count_at v)) (leb (count_at v) 1024) i);
        few = leb-true (count_at v) 1024 (and_right (leb 1 (count_at v)) (leb (count_at v) 1024) i);
        long = eqb-true _ _ (and_right (within 1 1024 (count_at v)) (eqb (length v) (8 + 8 * count_at v)) t.0);
        tables = r.tables;
        values = r.values;
        root = r.node;
        some_tables = f.0;
        few_tables = f.1;
        some_values = f.2;
        few_values = f.3;
        block = b;
        read = r.read;
        parts = block_ok v (count_at v) 15 (parse_value v (count_at v) 15) r.tables r.values 1 r.read;
        whole = e ∙ ap (ok b) r.end;
      },
      r.end,
    )

pub check_records : (v : List ℕ) {b : Block} {m : ℕ} → parse_view v ≡ ok b m → check_of v ≡ fine m
unfolding check_of place_of
check_records v e = rw e

-- A VIEW THAT WAS TAKEN, as a caller of the check holds it
module _ (v : List ℕ) {r : Checked ℕ} (e : r ≡ check_of v) where
  read : {m : ℕ} → r ≡ fine m → (b : Block) × (parse_view v ≡ ok b m)
  unfolding check_of
  read f = place_fine (parse_view v) (sym f ∙ e)

  pub taken : {m : ℕ} → r ≡ fine m → Taken v
  taken f = (view_ok v (read f).1).0

  pub taken_count : {m : ℕ} → r ≡ fine m → m ≡ count_at v
  taken_count f = (view_ok v (read f).1).1

  -- A VIEW THAT WAS REFUSED
  pub denied : {k p : ℕ} → r ≡ refusal k p → parse_view v ≡ refused k p
  unfolding check_of
  denied f = place_refusal (parse_view v) (sym f ∙ e)

-- the SELECT, as a pass takes it from record 0
module _ (v : List ℕ) (w : Taken v) {nd : Node} (e : nd ≡ node_at v 0) where
  pub select_read : {n a b : ℕ} → n ≡ count_at v → nd ≡ Select a b → WasRead (parse_block v n 15 (parse_value v n 15) a b 1)
  select_read {n} {a} {b} c f =
      let h : Select w.tables w.values ≡ Select a b = sym w.root ∙ sym e ∙ f in
      let x : w.tables ≡ a = cc in
      let y : w.values ≡ b = cc in
      rw (c, ← x, ← y) (was_read w.read)

  pub no_root : {md : Node} → nd ≡ md → (slot_of md ≡ 3 → ⊥) → ⊥
  unfolding slot_of
  no_root f g = g (ap slot_of (sym f ∙ e ∙ w.root))
