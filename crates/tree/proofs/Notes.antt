-- THE NOTES OF AN ACCEPTED VALUE GIVE ITS DATA: its records with its notes, one after the other, are its data tree in prefix order; and each of them is one of a value.
-- Assumes nothing.
use Prim.Native.Nat.{ℕ, zero, suc, ◌+◌, ◌-◌, ◌*◌, ◌<◌, ◌≤◌, max}
use mathlib.Core.Path.{◌≡◌, refl, sym, ap, ap₂, ◌∙◌}
use mathlib.Core.Bool.{false, true≢false}
use mathlib.Core.List.{List, [], ◌∷◌, ◌++◌, append_assoc}
use native.Mathlib.Omega.{arith}
use native.Mathlib.Decide.{dec_lt}
use lib.ListN.{length, set, take, drop}
use lib.Seq.{length-take-le, drop_at, take-append_seam, take-set-le, drop-set-lt, drop-set-add}
use Rattle.word.specs.Buffer.{put}
use Rattle.word.specs.Writer.{Writes}
use Rattle.word.specs.declared.writer.Writer.{Writer}
use Rattle.word.proofs.Writing.{put_eq}
use Rattle.cell.specs.Res.{done}
use Rattle.cell.specs.Types.{digits_of, scale_of, limb_type, same_type}
use Rattle.cell.specs.declared.Type.{«Type» as Ty}
use Rattle.cell.specs.declared.Type.TheVariants as T
use Rattle.cell.proofs.Typing.{LimbTy, limb_fixed, limb_same, limb_ty, same_refl}
use Rattle.catalogue.specs.Tables.{tables_from}
use Rattle.view.specs.Ast.{Exp, ok}
use Rattle.view.specs.Parse.{name_of, parse_value}
use Rattle.view.specs.Record.{node_at, slot_of}
use Rattle.view.specs.declared.Node.{Node}
use Rattle.view.specs.declared.Node.TheVariants.{Const, Binop, Not, If, Exists, Single, Table, Select, Col, Classof, Let, Bad}
use Rattle.view.proofs.Induction.{parse_ind, value_ends}
use Rattle.view.proofs.Read as read
use Rattle.view.proofs.Read.{Listed, next_is}
use Rattle.scope.specs.Scopes.{column, bound, find}
use Rattle.scope.specs.Table.{scopes_of}
use Rattle.scope.specs.declared.Scope.{Scope}
use Rattle.scope.proofs.Named.{name_at, ref_is}
use Rattle.resolve.specs.Notes.{notes_of}
use Rattle.resolve.specs.Claims.{block_node}
use Rattle.resolve.specs.declared.Asked.TheVariants as ask
use Rattle.resolve.specs.declared.Files.{Files}
use Rattle.resolve.proofs.Inversion.{ColGood, of_column, of_local, if_good}
use Rattle.tree.specs.Tree.{encode, table_recs}
use Rattle.tree.specs.Trans.{nums}
use Rattle.tree.specs.Claims.{expr_at, type_at, data_at, next_at, Accepted, refs_at}
use Rattle.tree.specs.Noted.{noted_bytes, notes_in, Stands, Noting}
use Rattle.tree.proofs.Accepted.{BlockIs, const_is, col_is, classof_is, not_is, binop_is, if_is, let_is, block_entry, exists_is, single_is, no_table, no_select, no_bad}
use Rattle.tree.proofs.Gives.{Gives, gives_tables, Told, told_as, told_const, told_column, told_classof, told_local, told_not, told_binop, told_let, told_if, told_exists, told_single}
use Rattle.tree.proofs.Narrow.{narrow_type}
use Rattle.tree.proofs.Reach.{reach}
use Rattle.tree.proofs.Resolved.{out_is, type_is}
use Rattle.tree.specs.Levels.{Fits}
use Rattle.tree.proofs.Writers.{fits_as, writes_as}

-- ---- CONV's number is not 0: a type of no digits at scale 0 is never another one than a limb's

conv_left : {s t r : Ty} → LimbTy s t r → same_type s r ≡ false → 1 ≤ 16 * digits_of r + scale_of r
conv_left (limb_fixed {p = p} {s = a} {q = q} {r = b}) e = go (dec_lt 0 (16 * max p q + max a b))
  where
    go : Dec (0 < 16 * max p q + max a b) → 1 ≤ 16 * digits_of (T.Fixed (max p q) (max a b)) + scale_of (T.Fixed (max p q) (max a b))
    go (yes h) = unfold digits_of scale_of in omega arith
    go (no h) =
        let x : max p q ≡ p = omega arith in
        let y : max a b ≡ a = omega arith in
        absurd (true≢false (sym (same_refl (T.Fixed p a)) ∙ (rw (x, y) at e)))
conv_left (limb_same {t = t}) e = absurd (true≢false (sym (same_refl t) ∙ e))

conv_right : {s t r : Ty} → LimbTy s t r → same_type t r ≡ false → 1 ≤ 16 * digits_of r + scale_of r
conv_right (limb_fixed {p = p} {s = a} {q = q} {r = b}) e = go (dec_lt 0 (16 * max p q + max a b))
  where
    go : Dec (0 < 16 * max p q + max a b) → 1 ≤ 16 * digits_of (T.Fixed (max p q) (max a b)) + scale_of (T.Fixed (max p q) (max a b))
    go (yes h) = unfold digits_of scale_of in omega arith
    go (no h) =
        let x : max p q ≡ q = omega arith in
        let y : max a b ≡ b = omega arith in
        absurd (true≢false (sym (same_refl (T.Fixed q b)) ∙ (rw (x, y) at e)))
conv_right (limb_same {t = t}) e = absurd (true≢false (sym (same_refl t) ∙ e))

module _ (c ss v : List ℕ) (f : Files) where
  -- an accepted value's notes
  abbrev Here : List Scope → ℕ → ℕ → ℕ → Type 0
  Here t deep d at = Told v at (expr_at c v f t deep d at) (next_at v f d at)

  module _ (t : List Scope) (deep d at : ℕ) (w : Accepted c ss v f t deep d at) where
    -- the type rule of IF over its limbs' types
    limb_rule : (m l : ℕ) → node_at v at ≡ If → m ≡ next_at v f (d - 1) (at + 1) → l ≡ next_at v f (d - 1) m
        → limb_type (type_at c v f t deep (d - 1) m) (type_at c v f t deep (d - 1) l) ≡ done (type_at c v f t deep d at)
    unfolding next_at
    limb_rule m l g n o =
        let h = read.if_read v f.n d at w.ready.is_read refl g in
        let p : parse_value v f.n (d - 1) m ≡ ok h.y h.late = ap (parse_value v f.n (d - 1)) (n ∙ next_is h.first) ∙ h.second in
        let q : parse_value v f.n (d - 1) l ≡ ok h.z h.end = ap (parse_value v f.n (d - 1)) (o ∙ next_is p) ∙ h.third in
        let b = if_good (tables_from c f.nc f.nc 0) (scopes_of c f.nc t deep) _ _ at h.x h.y h.z (sym (out_is c v f t deep d at h.whole) ∙ w.resolved) in
        let x = type_is c v f t deep (d - 1) m (out_is c v f t deep (d - 1) m p ∙ b.left) in
        let y = type_is c v f t deep (d - 1) l (out_is c v f t deep (d - 1) l q ∙ b.right) in
        ap₂ limb_type x y ∙ b.rule

    -- a name, by what it finds
    col_told : (name q : ℕ) → node_at v at ≡ Col name q → ColGood (find name q 0 (scopes_of c f.nc t deep)) (expr_at c v f t deep d at) (type_at c v f t deep d at)
        → Told v at (expr_at c v f t deep d at) (at + 1)
    col_told name q g (of_column i j k u s e h y) =
        let z : (i < deep) × (j < 4) × (k < f.nc) = reach c f.nc t deep name q (column i j k u s) e in
        let m = w.ready.not_many in
        let n = w.ready.lent.cat_few in
        told_as v h refl (told_column v i j k s.info (omega (arith, z.0)) (omega (arith, z.1)) (omega (arith, z.2)) g)
    col_told name q g (of_local i e h) =
        let z : i < deep = reach c f.nc t deep name q (bound i (type_at c v f t deep d at)) e in
        let m = w.ready.not_many in
        told_as v h refl (told_local v i (omega arith) g)

    -- a block's tables
    block_told : (count : ℕ) (u : List Scope) (s : Scope) → Listed v f.n (at + 1) count → BlockIs c ss v f t u deep d at count s
        → Gives v (at + 1) (nums (refs_at c f.nc v (at + 1) count)) (table_recs (nums (refs_at c f.nc v (at + 1) count))) (at + 1 + length (refs_at c f.nc v (at + 1) count))
    unfolding refs_at
    block_told count u s l b =
        let n = b.counted in
        gives_tables v (at + 1) (refs_at c f.nc v (at + 1) count) (λ j h. l.each j (omega (arith, n)))
        (λ j r h e.
        let k = b.tabled.starts.few in
        let m = (ref_is c f.nc f.tables ss b.tabled.starts _ r (name_at (tables_from c f.nc f.nc 0) v (at + 1) count _ b.tabled.found j (omega (arith, n)) ∙ e)).below in
        omega arith)

    -- by the node, given the same of the values one level down
    step : ((u : List Scope) (e i : ℕ) → Accepted c ss v f u e (d - 1) i → Here u e (d - 1) i) → (nd : Node) → nd ≡ node_at v at → Here t deep d at
    step ih (Const s x) e =
        let b = const_is c ss v f t deep d at w (Const s x) e refl in
        told_as v b.0 b.1 (told_const v s x (sym e))
    step ih (Binop op) e =
        let b = binop_is c ss v f t deep d at w (Binop op) e op _ refl refl in
        let n = (narrow_type c ss v f t deep d at w).digits in
        told_as v b.is b.next (told_binop v op (digits_of (type_at c v f t deep d at)) _ _ (sym e) (omega arith) (ih t deep _ b.left) (ih t deep _ b.right))
    step ih Not e =
        let b = not_is c ss v f t deep d at w Not e refl in
        told_as v b.is b.next (told_not v _ (sym e) (ih t deep _ b.operand))
    step ih If e =
        let b = if_is c ss v f t deep d at w If e _ _ refl refl refl in
        let r = limb_ty _ _ _ (limb_rule _ _ (sym e) refl refl) in
        told_as v b.is b.next (told_if v _ _ _ _ _ _ (sym e) (conv_left r) (conv_right r) (ih t deep _ b.test) (ih t deep _ b.yes) (ih t deep _ b.no))
    step ih (Exists a q) e =
        let g : node_at v at ≡ block_node (ask.Rows q) a = unfold block_node in sym e in
        let o = block_entry c ss v f t deep d at w (ask.Rows q) a g in
        let b = exists_is c ss v f t deep d at w (ask.Rows q) a g o.0 o.1 _ refl q refl in
        let l = read.exists_listed v f.n d at w.ready.is_read e refl in
        told_as v b.is b.next (told_exists v at a _ b.block.counted (block_told a _ _ l b.block) q _ (sym e) (ih _ _ _ b.block.test))
    step ih (Single a q) e =
        let g : node_at v at ≡ block_node (ask.Values q) a = unfold block_node in sym e in
        let o = block_entry c ss v f t deep d at w (ask.Values q) a g in
        let b = single_is c ss v f t deep d at w (ask.Values q) a g o.0 o.1 _ refl q _ refl refl in
        let l = read.single_listed v f.n d at w.ready.is_read e refl in
        told_as v b.is b.next (told_single v at a _ b.block.counted (block_told a _ _ l b.block) q _ _ (sym e) (ih _ _ _ b.block.test) (ih _ _ _ b.value))
    step ih (Col name q) e =
        let b = col_is c ss v f t deep d at w (Col name q) e refl in
        told_as v refl b.1 (col_told name q (sym e) b.0)
    step ih (Classof name q) e =
        let b = classof_is c ss v f t deep d at w (Classof name q) e refl in
        let z : (b.0.a < deep) × (b.0.b < 4) × (b.0.c < f.nc) = reach c f.nc t deep name q (column b.0.a b.0.b b.0.c b.0.table b.0.col) b.0.found in
        let m = w.ready.not_many in
        let n = w.ready.lent.cat_few in
        told_as v b.0.is b.1 (told_classof v b.0.a b.0.b b.0.c b.0.table.row (omega (arith, z.0)) (omega (arith, z.1)) (omega (arith, z.2)) (sym e))
    step ih (Let name) e =
        let b = let_is c ss v f t deep d at w (Let name) e name _ _ _ refl refl refl refl in
        told_as v b.is b.next (told_let v name _ _ (sym e) (ih t deep _ b.value) (ih _ _ _ b.body))
    step ih (Table a) e = absurd (no_table c ss v f t deep d at w (Table a) e refl)
    step ih (Select a b) e = absurd (no_select c ss v f t deep d at w (Select a b) e refl)
    step ih Bad e = absurd (no_bad c ss v f t deep d at w Bad e refl)

  told : (d : ℕ) (t : List Scope) (deep at : ℕ) → Accepted c ss v f t deep d at → Here t deep d at
  told zero t deep at w = absurd (let h = w.ready.left in omega arith)
  told (suc d) t deep at w =
      let z : suc d - 1 ≡ d = omega arith in
      let ih : (u : List Scope) (e i : ℕ) → Accepted c ss v f u e (suc d - 1) i → Here u e (suc d - 1) i = rw z (λ u e i g. told d u e i g) in
      step t deep (suc d) at w ih (node_at v at) refl

-- ---- the records of a value

stands_by : {nd : Node} (k : ℕ) → slot_of nd ≡ k → 1 ≤ k → k ≤ 2 → Stands nd
stands_by k e h l = record { no_bad = omega arith; no_root = omega arith }

module _ (v : List ℕ) where
  -- the records from `at` on, before k
  abbrev Values : ℕ → ℕ → Type 0
  Values at k = (i : ℕ) → at ≤ i → i < k → Stands (node_at v i)

  both : {at m k : ℕ} → Values at m → Values m k → Values at k
  both {at} {m} {k} p q i a b = go (dec_lt i m)
    where
      go : Dec (i < m) → Stands (node_at v i)
      go (yes h) = p i a h
      go (no h) = q i (omega arith) b

  one : (at : ℕ) {nd : Node} (k : ℕ) → node_at v at ≡ nd → slot_of nd ≡ k → 1 ≤ k → k ≤ 2 → Values at (at + 1)
  one at k g e h l i a b = let z : i ≡ at = omega arith in rw (z, g) (stands_by k e h l)

  named : {n : ℕ} (at count : ℕ) → Listed v n at count → Values at (at + count)
  unfolding slot_of
  named at count l i a b =
      let z : at + (i - at) ≡ i = omega arith in
      let g : node_at v i ≡ Table (name_of (node_at v i)) = rw z at (l.each (i - at) (omega arith)) in
      stands_by 2 (ap slot_of g) (omega arith) (omega arith)

  values : (n d at : ℕ) {e : Exp} {k : ℕ} → parse_value v n d at ≡ ok e k → Values at k
  unfolding slot_of
  values n d at h =
      parse_ind v n (λ d at e k. Values at k)
      (λ d at t x z l g. one at 1 g refl (omega arith) (omega arith))
      (λ d at name q z l g. one at 1 g refl (omega arith) (omega arith))
      (λ d at name q z l g. one at 1 g refl (omega arith) (omega arith))
      (λ d at e k z l g a. both (one at 1 g refl (omega arith) (omega arith)) a)
      (λ d at op x y m k z l g a b. both (one at 1 g refl (omega arith) (omega arith)) (both a b))
      (λ d at name x y m k z l g a b. both (one at 1 g refl (omega arith) (omega arith)) (both a b))
      (λ d at x y w m j k z l g a b c. both (one at 1 g refl (omega arith) (omega arith)) (both a (both b c)))
      (λ d at a q w k z l g o b. both (one at 1 g refl (omega arith) (omega arith)) (both (named (at + 1) a o) b))
      (λ d at a q w x m k z l g o b c. both (one at 1 g refl (omega arith) (omega arith)) (both (named (at + 1) a o) (both b c)))
      d at h

module _ (c ss v : List ℕ) (f : Files) (t : List Scope) (deep d at : ℕ) (w : Accepted c ss v f t deep d at) where
  -- THE LAW
  pub noted_data : noted_bytes v (notes_of (expr_at c v f t deep d at)) at ≡ encode (data_at c v f t deep d at)
  unfolding data_at
  noted_data = (told c ss v f d t deep at w).gives.bytes

  -- there is a note for each of its records
  pub noted_long : at + length (notes_of (expr_at c v f t deep d at)) ≡ next_at v f d at
  noted_long = (told c ss v f d t deep at w).gives.long

  -- what the writer asks for
  pub noting : (ws : List ℕ) → next_at v f d at ≤ length ws → Noting v ws at (next_at v f d at)
  unfolding next_at
  noting ws h =
      let r = w.ready.is_read.is in
      let z = value_ends v f.n d at r in
      let l = w.ready.lent.view_long in
      rw (next_is r) (record { view_long = omega arith; notes_long = rw (next_is r) at h; each = values v f.n d at r })

  -- where the notes of its records are its own, the writer has room for them if there is room for its data, and writes that
  module _ (ws : List ℕ) (e : notes_in ws at (next_at v f d at) ≡ notes_of (expr_at c v f t deep d at)) where
    run_data : noted_bytes v (notes_in ws at (next_at v f d at)) at ≡ encode (data_at c v f t deep d at)
    run_data = ap (λ (xs : List ℕ). noted_bytes v xs at) e ∙ noted_data

    pub noted_asks : {x : Writer} → Fits (encode (data_at c v f t deep d at)) x → Fits (noted_bytes v (notes_in ws at (next_at v f d at)) at) x
    noted_asks r = fits_as (sym run_data) r

    pub noted_done : {x y : Writer} → Writes (noted_bytes v (notes_in ws at (next_at v f d at)) at) x y → Writes (encode (data_at c v f t deep d at)) x y
    noted_done h = writes_as run_data h

-- ---- the notes that a walk left: those of a value are its own, and stay so when later records are noted

pub notes_put : (o : List ℕ) (at : ℕ) (xs : List ℕ) → at + length xs ≤ length o → notes_in (put o at xs) at (at + length xs) ≡ xs
unfolding notes_in
notes_put o at xs h =
    let e : at + length xs - at ≡ length xs = omega arith in
    let l : length (take at o) ≡ at = length-take-le at o (omega arith) in
    rw (e, put_eq o at xs h, append_assoc (take at o) xs (drop (at + length xs) o), drop_at (take at o) (xs ++ drop (at + length xs) o) at l)
    (take-append_seam xs (drop (at + length xs) o))

notes_set : (o : List ℕ) (k z at end : ℕ) → end ≤ k → notes_in (set o k z) at end ≡ notes_in o at end
unfolding notes_in
notes_set o k z at end h = go (dec_lt k at)
  where
    go : Dec (k < at) → take (end - at) (drop at (set o k z)) ≡ take (end - at) (drop at o)
    go (yes l) = ap (λ (xs : List ℕ). take (end - at) xs) (drop-set-lt at o k z l)
    go (no l) =
        let i : k ≡ at + (k - at) = omega arith in
        ap (λ (j : ℕ). take (end - at) (drop at (set o j z))) i ∙ ap (λ (xs : List ℕ). take (end - at) xs) (drop-set-add at o (k - at) z)
        ∙ take-set-le (end - at) (drop at o) (k - at) z (omega arith)

pub notes_kept : (o : List ℕ) (k : ℕ) (zs : List ℕ) (at end : ℕ) → end ≤ k → notes_in (put o k zs) at end ≡ notes_in o at end
unfolding put
notes_kept o k [] at end h = refl
notes_kept o k (z ∷ zs) at end h = notes_kept (set o k z) (suc k) zs at end (omega arith) ∙ notes_set o k z at end h
