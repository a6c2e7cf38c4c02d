-- What records of a view give with notes: runs of them, and the notes of an expression, one law for each kind.
-- Assumes nothing.
use Prim.Native.Nat.{ℕ, suc, ◌+◌, ◌*◌, ◌/◌, ◌%◌, ◌<◌, ◌≤◌}
use mathlib.Core.Path.{◌≡◌, refl, sym, ap, ap₂, ◌∙◌, subst}
use mathlib.Core.Bool.{Bool, true, false, cond}
use mathlib.Core.List.{List, [], ◌∷◌, ◌++◌, append_assoc, append-nil}
use native.Mathlib.Omega.{arith}
use native.Mathlib.Nat.{add-zero}
use borrow.Author.Tests.{ne_eqb}
use lib.ListN.{length, length-append, length-map}
use Rattle.word.specs.Record.{rec_bytes}
use Rattle.class.specs.declared.Info.{Info}
use Rattle.cell.specs.Res.{done, nth}
use Rattle.cell.specs.Types.{digits_of, scale_of, same_type}
use Rattle.cell.specs.declared.Type.{«Type» as Ty}
use Rattle.cell.specs.declared.Value.{Value}
use Rattle.catalogue.specs.Tables.{TabRef}
use Rattle.view.specs.Parse.{name_of}
use Rattle.view.specs.Record.{node_at}
use Rattle.view.specs.declared.Fold.{Fold}
use Rattle.view.specs.declared.Pick.{Pick}
use Rattle.view.specs.declared.Node.{Node}
use Rattle.view.specs.declared.Node.TheVariants.{Const, Binop, Not, If, Exists, Single, Table, Select, Col, Classof, Let, Bad}
use Rattle.resolve.specs.Expr.{Expr}
use Rattle.resolve.specs.Expr as expr
use Rattle.resolve.specs.Notes.{column_note, local_note, marked, notes_of}
use Rattle.resolve.specs.Resolve.{brought}
use Rattle.tree.specs.Tree.{encode, table_recs, fold_kind, fold_op, pick_kind}
use Rattle.tree.specs.Trans.{expr_data, nums}
use Rattle.tree.specs.Noted.{mark_bytes, name_bytes, plain_bytes, record_bytes, noted_bytes}

-- ---- one note: the mark stands above all that a record is made of

low_a : (w m : ℕ) → (w % 72057594037927936 + 72057594037927936 * m) % 65536 ≡ w % 65536
low_a w m = omega arith

low_b : (w m : ℕ) → (w % 72057594037927936 + 72057594037927936 * m) / 65536 % 65536 ≡ w / 65536 % 65536
low_b w m = omega arith

low_c : (w m : ℕ) → (w % 72057594037927936 + 72057594037927936 * m) / 4294967296 % 65536 ≡ w / 4294967296 % 65536
low_c w m = omega arith

low_d : (w m : ℕ) → (w % 72057594037927936 + 72057594037927936 * m) / 281474976710656 % 256 ≡ w / 281474976710656 % 256
low_d w m = omega arith

plain_marked : (nd : Node) (w m : ℕ) → plain_bytes nd (w % 72057594037927936 + 72057594037927936 * m) ≡ plain_bytes nd w
unfolding plain_bytes name_bytes
plain_marked (Const t x) w m = refl
plain_marked (Binop op) w m = rw (low_a w m)
plain_marked Not w m = refl
plain_marked If w m = refl
plain_marked (Exists a f) w m = refl
plain_marked (Single a g) w m = refl
plain_marked (Table name) w m = rw (low_a w m)
plain_marked (Select a b) w m = refl
plain_marked (Col name q) w m = rw (low_a w m, low_b w m, low_c w m, low_d w m)
plain_marked (Classof name q) w m = rw (low_a w m, low_b w m, low_c w m)
plain_marked (Let name) w m = refl
plain_marked Bad w m = refl

record_plain : (nd : Node) (w : ℕ) → w < 72057594037927936 → record_bytes nd w ≡ plain_bytes nd w
unfolding record_bytes mark_bytes
record_plain nd w h = let e : w / 72057594037927936 ≡ 0 = omega arith in rw e

record_raised : (nd : Node) (w m : ℕ) → 1 ≤ m → record_bytes nd (w % 72057594037927936 + 72057594037927936 * m) ≡ rec_bytes 22 m 0 0 0 ++ plain_bytes nd w
unfolding record_bytes mark_bytes
record_raised nd w m l =
    let e : (w % 72057594037927936 + 72057594037927936 * m) / 72057594037927936 ≡ m = omega arith in
    let z : (m ≡ 0 → ⊥) = omega arith in
    rw (e, ne_eqb m 0 z, plain_marked nd w m)

record_marked : (nd : Node) (w m : ℕ) → w < 72057594037927936 → 1 ≤ m
    → record_bytes nd (w % 72057594037927936 + 72057594037927936 * m) ≡ rec_bytes 22 m 0 0 0 ++ record_bytes nd w
record_marked nd w m h l = record_raised nd w m l ∙ ap (λ (bs : List ℕ). rec_bytes 22 m 0 0 0 ++ bs) (sym (record_plain nd w h))

-- ---- runs

noted_append : (v xs ys : List ℕ) (at : ℕ) → noted_bytes v (xs ++ ys) at ≡ noted_bytes v xs at ++ noted_bytes v ys (at + length xs)
unfolding noted_bytes
noted_append v [] ys at = ap (λ (j : ℕ). noted_bytes v ys j) (sym (add-zero at))
noted_append v (x ∷ xs) ys at =
    let z : at + 1 + length xs ≡ at + suc (length xs) = omega arith in
    ap (λ (l : List ℕ). record_bytes (node_at v at) x ++ l) (noted_append v xs ys (at + 1) ∙ ap (λ (j : ℕ). noted_bytes v xs (at + 1) ++ noted_bytes v ys j) z)
    ∙ sym (append_assoc (record_bytes (node_at v at) x) (noted_bytes v xs (at + 1)) (noted_bytes v ys (at + suc (length xs))))

-- the notes ws from record `at` on give the bytes bs, and end before record `next`
pub record Gives (v : List ℕ) (at : ℕ) (ws bs : List ℕ) (next : ℕ) : Type 0 where
  pub bytes : noted_bytes v ws at ≡ bs
  pub long : at + length ws ≡ next

-- the first of some notes is not marked
abbrev pub Unmarked : List ℕ → Type 0
Unmarked [] = ⊥
Unmarked (w ∷ ws) = w < 72057594037927936

module _ (v : List ℕ) where
  gives_then : {at m k : ℕ} {xs ys bs cs : List ℕ} → Gives v at xs bs m → Gives v m ys cs k → Gives v at (xs ++ ys) (bs ++ cs) k
  gives_then {at} {m} {k} {xs} {ys} p q = record {
    bytes = noted_append v xs ys at ∙ ap₂ (λ (a b : List ℕ). a ++ b) p.bytes (ap (λ (j : ℕ). noted_bytes v ys j) p.long ∙ q.bytes);
    long = omega (arith, p.long, q.long, length-append xs ys);
  }

  gives_first : {at k : ℕ} {ws bs : List ℕ} (w : ℕ) (nd : Node) → node_at v at ≡ nd → w < 72057594037927936 → Gives v (at + 1) ws bs k → Gives v at (w ∷ ws) (plain_bytes nd w ++ bs) k
  gives_first {at} {k} {ws} w nd g h p = record {
    bytes = unfold noted_bytes in ap₂ (λ (a b : List ℕ). a ++ b) (record_plain (node_at v at) w h ∙ ap (λ (x : Node). plain_bytes x w) g) p.bytes;
    long = omega (arith, p.long);
  }

  gives_none : (at : ℕ) → Gives v at [] [] at
  gives_none at = record { bytes = unfold noted_bytes in refl; long = omega arith }

  gives_one : {at : ℕ} (w : ℕ) (nd : Node) → node_at v at ≡ nd → w < 72057594037927936 → Gives v at (w ∷ []) (plain_bytes nd w) (at + 1)
  gives_one {at} w nd g h = subst (λ (l : List ℕ). Gives v at (w ∷ []) l (at + 1)) (append-nil (plain_bytes nd w)) (gives_first w nd g h (gives_none (at + 1)))

  -- a value's notes, with the first one marked
  gives_marked : {at k : ℕ} (m : ℕ) (ws : List ℕ) {bs : List ℕ} → 1 ≤ m → Unmarked ws → Gives v at ws bs k → Gives v at (marked m ws) (rec_bytes 22 m 0 0 0 ++ bs) k
  gives_marked m [] l u p = absurd u
  gives_marked {at} m (w ∷ ws) l u p = record {
    bytes = unfold marked noted_bytes in ap (λ (a : List ℕ). a ++ noted_bytes v ws (at + 1)) (record_marked (node_at v at) w m u l)
        ∙ append_assoc (rec_bytes 22 m 0 0 0) (record_bytes (node_at v at) w) (noted_bytes v ws (at + 1)) ∙ ap (λ (a : List ℕ). rec_bytes 22 m 0 0 0 ++ a) p.bytes;
    long = unfold marked in p.long;
  }

  -- the TABLE records of a block
  pub gives_tables : (at : ℕ) (ts : List TabRef) → ((j : ℕ) → j < length ts → node_at v (at + j) ≡ Table (name_of (node_at v (at + j))))
      → ((j : ℕ) (t : TabRef) → j < length ts → nth ts j ≡ done t → t.num < 65536) → Gives v at (nums ts) (table_recs (nums ts)) (at + length ts)
  unfolding table_recs nth plain_bytes
  gives_tables at [] f g = subst (λ (j : ℕ). Gives v at [] [] j) (sym (add-zero at)) (gives_none at)
  gives_tables at (t ∷ ts) f g =
      let l : t.num < 65536 = g 0 t (omega arith) refl in
      let y : t.num % 65536 ≡ t.num = omega arith in
      let z : at + 0 ≡ at = omega arith in
      let k : at + 1 + length ts ≡ at + suc (length ts) = omega arith in
      let rest = gives_tables (at + 1) ts (λ j h. let i : at + suc j ≡ at + 1 + j = omega arith in rw i at (f (suc j) (omega arith))) (λ j u h e. g (suc j) u (omega arith) e) in
      let node : node_at v at ≡ Table (name_of (node_at v at)) = rw z at (f 0 (omega arith)) in
      let whole = gives_first t.num (Table (name_of (node_at v at))) node (omega arith) rest in
      subst (λ (j : ℕ). Gives v at (nums (t ∷ ts)) (table_recs (nums (t ∷ ts))) j) k
      (subst (λ (n : ℕ). Gives v at (nums (t ∷ ts)) (rec_bytes 12 0 n 0 0 ++ table_recs (nums ts)) (at + 1 + length ts)) y whole)

  -- ---- an expression's notes: from record `at` on they give its data, and the first is not marked

  pub record Told (at : ℕ) (x : Expr) (next : ℕ) : Type 0 where
    pub gives : Gives v at (notes_of x) (encode (expr_data x)) next
    pub first : Unmarked (notes_of x)

  pub told_as : {at k l : ℕ} {x y : Expr} → x ≡ y → k ≡ l → Told at y k → Told at x l
  told_as {at} {k} {l} {x} {y} e f t = subst (λ (j : ℕ). Told at x j) f (subst (λ (z : Expr). Told at z k) (sym e) t)

  pub told_const : {at : ℕ} (t : Ty) (x : Value) → node_at v at ≡ Const t x → Told at (expr.Expr.const t x) (at + 1)
  unfolding notes_of expr_data plain_bytes
  told_const t x g = record { gives = gives_one 0 (Const t x) g (omega arith); first = omega arith }

  module _ (a b c : ℕ) (i : Info) (h : a < 65536) (k : b < 65536) (l : c < 65536) where
    low : column_note a b c % 65536 ≡ a
    unfolding column_note
    low = omega arith

    mid : column_note a b c / 65536 % 65536 ≡ b
    unfolding column_note
    mid = omega arith

    high : column_note a b c / 4294967296 % 65536 ≡ c
    unfolding column_note
    high = omega arith

    over : column_note a b c / 281474976710656 % 256 ≡ 0
    unfolding column_note
    over = omega arith

    below : column_note a b c < 72057594037927936
    unfolding column_note
    below = omega arith

    data_bytes : (name q : ℕ) → plain_bytes (Col name q) (column_note a b c) ≡ rec_bytes 17 0 a b c
    unfolding plain_bytes name_bytes
    data_bytes name q = rw (over, low, mid, high)

    cell_bytes : (name q : ℕ) → plain_bytes (Classof name q) (column_note a b c) ≡ rec_bytes 18 0 a b c
    unfolding plain_bytes
    cell_bytes name q = rw (low, mid, high)

    pub told_column : {at name q : ℕ} → node_at v at ≡ Col name q → Told at (expr.Expr.col a b c i) (at + 1)
    unfolding notes_of expr_data encode
    told_column {at} {name} {q} g = record {
      gives = subst (λ (z : List ℕ). Gives v at (column_note a b c ∷ []) z (at + 1)) (data_bytes name q) (gives_one (column_note a b c) (Col name q) g below);
      first = below;
    }

    pub told_classof : {at name q : ℕ} → node_at v at ≡ Classof name q → Told at (expr.Expr.classof a b c i) (at + 1)
    unfolding notes_of expr_data encode
    told_classof {at} {name} {q} g = record {
      gives = subst (λ (z : List ℕ). Gives v at (column_note a b c ∷ []) z (at + 1)) (cell_bytes name q) (gives_one (column_note a b c) (Classof name q) g below);
      first = below;
    }

  module _ (a : ℕ) (h : a < 65536) where
    local_low : local_note a % 65536 ≡ a
    unfolding local_note
    local_low = omega arith

    local_over : local_note a / 281474976710656 % 256 ≡ 1
    unfolding local_note
    local_over = let e : (281474976710656 + a) / 281474976710656 ≡ 1 = omega arith in rw e

    local_below : local_note a < 72057594037927936
    unfolding local_note
    local_below = omega arith

    local_bytes : (name q : ℕ) → plain_bytes (Col name q) (local_note a) ≡ rec_bytes 20 0 a 0 0
    unfolding plain_bytes name_bytes
    local_bytes name q = rw (local_over, local_low)

    pub told_local : {at name q : ℕ} → node_at v at ≡ Col name q → Told at (expr.Expr.local a) (at + 1)
    unfolding notes_of expr_data encode
    told_local {at} {name} {q} g = record {
      gives = subst (λ (z : List ℕ). Gives v at (local_note a ∷ []) z (at + 1)) (local_bytes name q) (gives_one (local_note a) (Col name q) g local_below);
      first = local_below;
    }

  pub told_not : {at k : ℕ} (x : Expr) → node_at v at ≡ Not → Told (at + 1) x k → Told at (expr.Expr.neg x) k
  unfolding notes_of expr_data encode plain_bytes
  told_not x g p = record { gives = gives_first 0 Not g (omega arith) p.gives; first = omega arith }

  pub told_binop : {at m k : ℕ} (op p : ℕ) (x y : Expr) → node_at v at ≡ Binop op → p < 65536 → Told (at + 1) x m → Told m y k → Told at (expr.Expr.bin op p x y) k
  unfolding notes_of expr_data encode plain_bytes
  told_binop {at} {m} {k} op p x y g l s t =
      let e : p % 65536 ≡ p = omega arith in
      record {
        gives = subst (λ (n : ℕ). Gives v at (p ∷ (notes_of x ++ notes_of y)) (rec_bytes 7 op n 0 0 ++ (encode (expr_data x) ++ encode (expr_data y))) k) e
            (gives_first p (Binop op) g (omega arith) (gives_then s.gives t.gives));
        first = omega arith;
      }

  pub told_let : {at m k : ℕ} (name : ℕ) (x y : Expr) → node_at v at ≡ Let name → Told (at + 1) x m → Told m y k → Told at (expr.Expr.letin x y) k
  unfolding notes_of expr_data encode plain_bytes
  told_let name x y g s t = record { gives = gives_first 0 (Let name) g (omega arith) (gives_then s.gives t.gives); first = omega arith }

  -- a limb under IF of type r: marked where it has another type, which is then not of no digits at scale 0
  limb_gives : {at k : ℕ} (s r : Ty) (x : Expr) → Told at x k → (same_type s r ≡ false → 1 ≤ 16 * digits_of r + scale_of r)
      → Gives v at (notes_of (brought s r x)) (encode (expr_data (brought s r x))) k
  unfolding brought
  limb_gives {at} {k} s r x t h = go (same_type s r) refl
    where
      go : (b : Bool) → same_type s r ≡ b
          → Gives v at (notes_of (cond b x (expr.Expr.conv (digits_of r) (scale_of r) x))) (encode (expr_data (cond b x (expr.Expr.conv (digits_of r) (scale_of r) x)))) k
      go true e = t.gives
      go false e = unfold notes_of expr_data encode in gives_marked (16 * digits_of r + scale_of r) (notes_of x) (h e) t.first t.gives

  pub told_if : {at m l k : ℕ} (c x y : Expr) (s t r : Ty) → node_at v at ≡ If → (same_type s r ≡ false → 1 ≤ 16 * digits_of r + scale_of r)
      → (same_type t r ≡ false → 1 ≤ 16 * digits_of r + scale_of r) → Told (at + 1) c m → Told m x l → Told l y k → Told at (expr.Expr.if c (brought s r x) (brought t r y)) k
  unfolding notes_of expr_data encode plain_bytes
  told_if c x y s t r g h i p q o =
      record { gives = gives_first 0 If g (omega arith) (gives_then p.gives (gives_then (limb_gives s r x q h) (limb_gives t r y o i))); first = omega arith }

  module _ (at count : ℕ) (ts : List TabRef) (n : length ts ≡ count) (p : Gives v (at + 1) (nums ts) (table_recs (nums ts)) (at + 1 + length ts)) where
    numbered : length (nums ts) ≡ count
    numbered = simp length-map n

    tables : Gives v (at + 1) (nums ts) (table_recs (nums ts)) (at + 1 + count)
    tables = subst (λ (j : ℕ). Gives v (at + 1) (nums ts) (table_recs (nums ts)) (at + 1 + j)) n p

    pub told_exists : {k : ℕ} (f : Fold) (w : Expr) → node_at v at ≡ Exists count f → Told (at + 1 + count) w k → Told at (expr.Expr.exists f ts w) k
    unfolding notes_of expr_data encode plain_bytes
    told_exists {k} f w g t = record {
      gives = subst (λ (j : ℕ). Gives v at (0 ∷ (nums ts ++ notes_of w)) (rec_bytes (fold_kind f) (fold_op f) j 0 0 ++ (table_recs (nums ts) ++ encode (expr_data w))) k) (sym numbered)
          (gives_first 0 (Exists count f) g (omega arith) (gives_then tables t.gives));
      first = omega arith;
    }

    pub told_single : {m k : ℕ} (f : Pick) (w x : Expr) → node_at v at ≡ Single count f → Told (at + 1 + count) w m → Told m x k → Told at (expr.Expr.single f ts w x) k
    unfolding notes_of expr_data encode plain_bytes
    told_single {m} {k} f w x g t u = record {
      gives = subst (λ (j : ℕ). Gives v at (0 ∷ (nums ts ++ (notes_of w ++ notes_of x))) (rec_bytes (pick_kind f) 0 j 0 0 ++ (table_recs (nums ts) ++ (encode (expr_data w) ++ encode (expr_data x)))) k) (sym numbered)
          (gives_first 0 (Single count f) g (omega arith) (gives_then tables (gives_then t.gives u.gives)));
      first = omega arith;
    }
