-- The places of the writer from notes: one law for each. Its premises are what the code has found there.
-- Assumes nothing.
use Prim.Native.Nat.{ℕ, suc, ◌+◌, ◌-◌, ◌*◌, ◌/◌, ◌%◌, ◌<◌, ◌≤◌}
use mathlib.Core.Path.{◌≡◌, refl, sym, ap, ◌∙◌}
use mathlib.Core.Bool.{Bool, true, false, cond, ◌&&◌}
use mathlib.Core.List.{List, [], ◌∷◌, ◌++◌}
use native.Mathlib.Omega.{arith}
use native.Mathlib.Numerals.{add-one}
use borrow.Author.Rules.{rules}
use borrow.Author.Tests.{ne_eqb, eqb-true}
use lib.Dec.{eqb, leb}
use lib.ListN.{length, get_or}
use lib.Seq.{drop-cons}
use Rattle.word.specs.Bytes.{within}
use Rattle.word.specs.Writer.{Writes}
use Rattle.word.specs.declared.writer.Writer.{Writer}
use Rattle.word.specs.Record.{Record, rec_at, rec_bytes}
use Rattle.word.proofs.Laws.{length_rec}
use Rattle.word.proofs.Writing.{writes_then}
use Rattle.view.specs.Record.{when, bare, op_only, a_only, counts, node_of, node_at, slot_of}
use Rattle.view.specs.declared.Fold.{Fold}
use Rattle.view.specs.declared.Pick.{Pick}
use Rattle.view.specs.declared.Node.{Node}
use Rattle.view.specs.declared.Node.TheVariants.{Const, Binop, Not, If, Exists, Single, Table, Select, Col, Classof, Let, Bad}
use Rattle.view.proofs.Constants.{Small, const_again}
use Rattle.view.proofs.Laws.{and_left, and_right}
use Rattle.view.proofs.Nodes.{node_binop, node_table, node_col, node_classof, node_let}
use Rattle.view.proofs.Says.{Says, says_binop, says_not, says_if, says_exists, says_single, says_table, says_col, says_classof, says_let, says_count, says_greatest, says_least, says_node}
use Rattle.tree.specs.Tree.{rec_of, encode, fold_kind, fold_op, pick_kind}
use Rattle.tree.specs.Noted.{mark_bytes, name_bytes, plain_bytes, record_bytes, noted_bytes, notes_in, Stands, Noting}
use Rattle.tree.specs.Levels.{Fits}
use Rattle.tree.proofs.Writers.{writes_none, writes_as, fits_as, fits_front, fits_after, fits_record, Rests, rests_next, rests_as, rests_done}

-- ---- CONV

mark_bytes_lem : (m : ℕ) → (m ≡ 0 → ⊥) → mark_bytes m ≡ rec_bytes 22 m 0 0 0
unfolding mark_bytes
mark_bytes_lem m e = rw (ne_eqb m 0 e)

module _ {w : Writer} (m : ℕ) where
  pub mark_none : m ≡ 0 → Writes (mark_bytes m) w w
  unfolding mark_bytes
  mark_none e = rw e writes_none

  pub mark_room : (m ≡ 0 → ⊥) → Fits (mark_bytes m) w → w.at + 8 ≤ length w.out.now
  mark_room e r = fits_record 22 m 0 0 0 (fits_as (mark_bytes_lem m e) r)

  pub mark_some : {w₁ : Writer} → (m ≡ 0 → ⊥) → Writes (rec_bytes 22 m 0 0 0) w w₁ → Writes (mark_bytes m) w w₁
  mark_some e x = writes_as (sym (mark_bytes_lem m e)) x

pub ruleset marks = (mark_none, mark_room, mark_some, rules)

-- ---- a name

module _ (w : ℕ) where
  name_data : w / 281474976710656 % 256 ≡ 0 → name_bytes w ≡ rec_bytes 17 0 (w % 65536) (w / 65536 % 65536) (w / 4294967296 % 65536)
  unfolding name_bytes
  name_data e = rw e

  name_bound : (w / 281474976710656 % 256 ≡ 0 → ⊥) → name_bytes w ≡ rec_bytes 20 0 (w % 65536) 0 0
  unfolding name_bytes
  name_bound e = rw (ne_eqb (w / 281474976710656 % 256) 0 e)

  length_name : length (name_bytes w) ≡ 8
  unfolding name_bytes
  length_name = go (eqb (w / 281474976710656 % 256) 0)
    where
      go : (b : Bool) → length (cond b (rec_bytes 17 0 (w % 65536) (w / 65536 % 65536) (w / 4294967296 % 65536)) (rec_bytes 20 0 (w % 65536) 0 0)) ≡ 8
      go true = length_rec 17 0 (w % 65536) (w / 65536 % 65536) (w / 4294967296 % 65536)
      go false = length_rec 20 0 (w % 65536) 0 0

-- ---- a record, by its kind

-- a node of a value is no bad one
kept : (b : Bool) (x : Node) {y : Node} → when b x ≡ y → Stands y → y ≡ x
unfolding slot_of
kept true x e s = sym e
kept false x {y} e s = absurd (let h = s.no_bad in let z : 0 ≡ slot_of y = ap slot_of e in omega arith)

-- two and three fields at zero
two : (a b : ℕ) → (eqb a 0 && eqb b 0) ≡ true → (a ≡ 0) × (b ≡ 0)
two a b e = (eqb-true a 0 (and_left (eqb a 0) (eqb b 0) e), eqb-true b 0 (and_right (eqb a 0) (eqb b 0) e))

three : (a b c : ℕ) → (eqb a 0 && (eqb b 0 && eqb c 0)) ≡ true → (a ≡ 0) × (b ≡ 0) × (c ≡ 0)
three a b c e =
    let h = two b c (and_right (eqb a 0) (eqb b 0 && eqb c 0) e) in
    (eqb-true a 0 (and_left (eqb a 0) (eqb b 0 && eqb c 0) e), h.0, h.1)

-- the kinds whose records are as they were
module _ (r : Record) where
  blank_copied : (k : ℕ) → r.kind ≡ k → bare r ≡ true → rec_bytes k 0 0 0 0 ≡ rec_of r
  blank_copied k e h =
      let a = two r.op r.a (and_left (eqb r.op 0 && eqb r.a 0) (eqb r.b 0 && eqb r.c 0) h) in
      let b = two r.b r.c (and_right (eqb r.op 0 && eqb r.a 0) (eqb r.b 0 && eqb r.c 0) h) in
      rw (e, a.0, a.1, b.0, b.1)

  block_copied : (k : ℕ) → r.kind ≡ k → (within 1 4 r.a && a_only r) ≡ true → rec_bytes k 0 r.a 0 0 ≡ rec_of r
  block_copied k e h =
      let a = three r.op r.b r.c (and_right (within 1 4 r.a) (a_only r) h) in
      rw (e, a.0, a.1, a.2)

  not_copied : Says r Not → rec_bytes 8 0 0 0 0 ≡ rec_of r
  not_copied (says_not k e) = blank_copied 8 k e

  if_copied : Says r If → rec_bytes 9 0 0 0 0 ≡ rec_of r
  if_copied (says_if k e) = blank_copied 9 k e

  exists_copied : {a : ℕ} {f : Fold} → Says r (Exists a f) → rec_bytes (fold_kind f) (fold_op f) a 0 0 ≡ rec_of r
  unfolding fold_kind fold_op
  exists_copied (says_exists k e) = block_copied 10 k e
  exists_copied (says_count k e) =
      let h = and_right (within 1 4 r.a) (counts r) e in
      let g = and_right (leb 1 (r.op / 16) && leb (r.op / 16) 9) (eqb (r.op % 16) 0 && (eqb r.b 0 && eqb r.c 0)) h in
      let a = three (r.op % 16) r.b r.c g in
      let z : 16 * (r.op / 16) ≡ r.op = omega (arith, a.0) in
      rw (k, z, a.1, a.2)

  single_copied : {a : ℕ} {g : Pick} → Says r (Single a g) → rec_bytes (pick_kind g) 0 a 0 0 ≡ rec_of r
  unfolding pick_kind
  single_copied (says_single k e) = block_copied 11 k e
  single_copied (says_greatest k e) = block_copied 29 k e
  single_copied (says_least k e) = block_copied 30 k e

  -- the others' kinds
  binop_kind : {op : ℕ} → Says r (Binop op) → r.kind ≡ 7
  binop_kind (says_binop k e) = k

  table_kind : {name : ℕ} → Says r (Table name) → r.kind ≡ 12
  table_kind (says_table k e) = k

  col_kind : {name q : ℕ} → Says r (Col name q) → r.kind ≡ 14
  col_kind (says_col k e) = k

  classof_kind : {name q : ℕ} → Says r (Classof name q) → r.kind ≡ 15
  classof_kind (says_classof k e) = k

  let_kind : {name : ℕ} → Says r (Let name) → r.kind ≡ 16
  let_kind (says_let k e) = k

  copied : (w : ℕ) → Small r → (r.kind ≡ 7 → ⊥) → (r.kind ≡ 12 → ⊥) → (r.kind ≡ 14 → ⊥) → (r.kind ≡ 15 → ⊥) → (r.kind ≡ 16 → ⊥)
      → (nd : Node) → node_of r ≡ nd → Stands nd → plain_bytes nd w ≡ rec_of r
  unfolding plain_bytes slot_of
  copied w s a b c d e (Const t x) g h = unfold encode in ap (λ (q : Record). rec_of q) (sym (const_again r s g))
  copied w s a b c d e (Binop op) g h = absurd (a (binop_kind (says_node r g)))
  copied w s a b c d e Not g h = not_copied (says_node r g)
  copied w s a b c d e If g h = if_copied (says_node r g)
  copied w s a b c d e (Exists x f) g h = exists_copied (says_node r g)
  copied w s a b c d e (Single x f) g h = single_copied (says_node r g)
  copied w s a b c d e (Table name) g h = absurd (b (table_kind (says_node r g)))
  copied w s a b c d e (Select x y) g h = absurd (let z = h.no_root in omega arith)
  copied w s a b c d e (Col name q) g h = absurd (c (col_kind (says_node r g)))
  copied w s a b c d e (Classof name q) g h = absurd (d (classof_kind (says_node r g)))
  copied w s a b c d e (Let name) g h = absurd (e (let_kind (says_node r g)))
  copied w s a b c d e Bad g h = absurd (let z = h.no_bad in omega arith)

length_plain : (nd : Node) (w : ℕ) → Stands nd → length (plain_bytes nd w) ≡ 8
unfolding plain_bytes slot_of
length_plain (Const t x) w h = unfold encode in length_rec _ _ _ _ _
length_plain (Binop op) w h = length_rec 7 op (w % 65536) 0 0
length_plain Not w h = length_rec 8 0 0 0 0
length_plain If w h = length_rec 9 0 0 0 0
length_plain (Exists a f) w h = length_rec (fold_kind f) (fold_op f) a 0 0
length_plain (Single a g) w h = length_rec (pick_kind g) 0 a 0 0
length_plain (Table name) w h = length_rec 12 0 (w % 65536) 0 0
length_plain (Select a b) w h = absurd (let z = h.no_root in omega arith)
length_plain (Col name q) w h = length_name w
length_plain (Classof name q) w h = length_rec 18 0 (w % 65536) (w / 65536 % 65536) (w / 4294967296 % 65536)
length_plain (Let name) w h = length_rec 23 0 0 0 0
length_plain Bad w h = absurd (let z = h.no_bad in omega arith)

-- the kinds whose records change
module _ (r : Record) (w : ℕ) (s : Stands (node_of r)) where
  binop_plain : r.kind ≡ 7 → plain_bytes (node_of r) w ≡ rec_bytes 7 r.op (w % 65536) 0 0
  unfolding plain_bytes
  binop_plain k = ap (λ (nd : Node). plain_bytes nd w) (kept (within 1 12 r.op && op_only r) (Binop r.op) (node_binop r k refl refl) s)

  table_plain : r.kind ≡ 12 → plain_bytes (node_of r) w ≡ rec_bytes 12 0 (w % 65536) 0 0
  unfolding plain_bytes
  table_plain k = ap (λ (nd : Node). plain_bytes nd w) (kept (leb 1 r.a && a_only r) (Table r.a) (node_table r k refl refl) s)

  col_plain : r.kind ≡ 14 → plain_bytes (node_of r) w ≡ name_bytes w
  unfolding plain_bytes
  col_plain k = ap (λ (nd : Node). plain_bytes nd w) (kept (leb 1 r.a && (eqb r.op 0 && eqb r.c 0)) (Col r.a r.b) (node_col r k refl) s)

  classof_plain : r.kind ≡ 15 → plain_bytes (node_of r) w ≡ rec_bytes 18 0 (w % 65536) (w / 65536 % 65536) (w / 4294967296 % 65536)
  unfolding plain_bytes
  classof_plain k = ap (λ (nd : Node). plain_bytes nd w) (kept (leb 1 r.a && (eqb r.op 0 && eqb r.c 0)) (Classof r.a r.b) (node_classof r k refl) s)

  let_plain : r.kind ≡ 16 → plain_bytes (node_of r) w ≡ rec_bytes 23 0 0 0 0
  unfolding plain_bytes
  let_plain k = ap (λ (nd : Node). plain_bytes nd w) (kept (leb 1 r.a && a_only r) (Let r.a) (node_let r k refl refl) s)

module _ (v : List ℕ) (i w : ℕ) (s : Stands (node_at v i)) (q : Record) (e : q ≡ rec_at v i) where
  stood : Stands (node_of q)
  stood = unfold node_at in rw e s

  nodes : node_of q ≡ node_at v i
  nodes = unfold node_at in ap node_of e

  pub plain_binop : q.kind ≡ 7 → rec_bytes 7 q.op (w % 65536) 0 0 ≡ plain_bytes (node_at v i) w
  plain_binop k = rw nodes at (sym (binop_plain q w stood k))

  pub plain_table : q.kind ≡ 12 → rec_bytes 12 0 (w % 65536) 0 0 ≡ plain_bytes (node_at v i) w
  plain_table k = rw nodes at (sym (table_plain q w stood k))

  pub plain_name : (r : Record) → q.kind ≡ 14 → rec_of r ≡ name_bytes w → rec_of r ≡ plain_bytes (node_at v i) w
  plain_name r k h = rw nodes at (h ∙ sym (col_plain q w stood k))

  pub plain_classof : q.kind ≡ 15 → rec_bytes 18 0 (w % 65536) (w / 65536 % 65536) (w / 4294967296 % 65536) ≡ plain_bytes (node_at v i) w
  plain_classof k = rw nodes at (sym (classof_plain q w stood k))

  pub plain_let : q.kind ≡ 16 → rec_bytes 23 0 0 0 0 ≡ plain_bytes (node_at v i) w
  plain_let k = rw nodes at (sym (let_plain q w stood k))

  pub plain_copied : Small q → (q.kind ≡ 7 → ⊥) → (q.kind ≡ 12 → ⊥) → (q.kind ≡ 14 → ⊥) → (q.kind ≡ 15 → ⊥) → (q.kind ≡ 16 → ⊥) → rec_of q ≡ plain_bytes (node_at v i) w
  plain_copied z a b c d f = sym (copied q w z a b c d f (node_at v i) nodes s)

-- ---- a record with its mark

module _ (nd : Node) (note : ℕ) {w : Writer} where
  pub mark_asks : Fits (record_bytes nd note) w → Fits (mark_bytes (note / 72057594037927936)) w
  unfolding record_bytes
  mark_asks r = fits_front _ r

  module _ {w₁ : Writer} (x : Writes (mark_bytes (note / 72057594037927936)) w w₁) where
    plain_asks : Fits (record_bytes nd note) w → Fits (plain_bytes nd note) w₁
    unfolding record_bytes
    plain_asks r = fits_after x r

    pub record_room : Stands nd → Fits (record_bytes nd note) w → w₁.at + 8 ≤ length w₁.out.now
    record_room s r = omega (arith, (plain_asks r).within, length_plain nd note s)

    pub record_done : (r : Record) {w₂ : Writer} → rec_of r ≡ plain_bytes nd note → Writes (rec_of r) w₁ w₂ → Writes (record_bytes nd note) w w₂
    unfolding record_bytes
    record_done r e y = writes_then x (writes_as e y)

-- ---- the loop: what is left of the bytes, from u on, comes to all of them, from `to` on

notes_next : (ws : List ℕ) (i end : ℕ) → i < end → end ≤ length ws → notes_in ws i end ≡ get_or ws i 0 ∷ notes_in ws (i + 1) end
unfolding notes_in
notes_next ws i end h l = let e : end - i ≡ suc (end - (i + 1)) = omega arith in rw (e, drop-cons ws i 0 (omega arith), add-one i)

notes_none : (ws : List ℕ) (i end : ℕ) → end ≤ i → notes_in ws i end ≡ []
unfolding notes_in
notes_none ws i end h = let e : end - i ≡ 0 = omega arith in rw e

module _ (v ws : List ℕ) (at end : ℕ) (n : Noting v ws at end) {w₀ w : Writer} {i : ℕ} (l : Rests (noted_bytes v (notes_in ws i end) i) w (noted_bytes v (notes_in ws at end) at) w₀) where
  pub rest_done : end ≤ i → Writes (noted_bytes v (notes_in ws at end) at) w₀ w
  rest_done h = rests_done (rests_as (ap (λ (xs : List ℕ). noted_bytes v xs i) (notes_none ws i end h) ∙ (unfold noted_bytes in refl)) l)

  module _ (h : i < end) where
    next_bytes : noted_bytes v (notes_in ws i end) i ≡ record_bytes (node_at v i) (get_or ws i 0) ++ noted_bytes v (notes_in ws (i + 1) end) (i + 1)
    unfolding noted_bytes
    next_bytes = ap (λ (xs : List ℕ). noted_bytes v xs i) (notes_next ws i end h n.notes_long)

    pub rest_room : Fits (record_bytes (node_at v i) (get_or ws i 0)) w
    rest_room = fits_front _ (fits_as next_bytes l.room)

    pub rest_again : {w₁ : Writer} → Writes (record_bytes (node_at v i) (get_or ws i 0)) w w₁ → Rests (noted_bytes v (notes_in ws (i + 1) end) (i + 1)) w₁ (noted_bytes v (notes_in ws at end) at) w₀
    rest_again x = rests_next x (rests_as next_bytes l)
