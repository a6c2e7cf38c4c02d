-- The walk's notes: one law for each place of its code, by the node it stands at. Its premises are what the code has found there.
-- Assumes nothing.
use Prim.Native.Nat.{ℕ, suc, ◌+◌, ◌-◌, ◌*◌, ◌%◌, ◌<◌}
use mathlib.Core.Path.{◌≡◌, refl, sym, ap, ap₂, ◌∙◌}
use mathlib.Core.Bool.{Bool, true, false, cond}
use mathlib.Core.List.{List, [], ◌∷◌, ◌++◌, map}
use native.Mathlib.Omega.{arith}
use lib.ListN.{length, set, length-append, length-map}
use Rattle.word.specs.Buffer.{put}
use Rattle.word.proofs.Writing.{put_one}
use Rattle.word.specs.Refusal.{Checked, fine, refusal}
use Rattle.class.specs.declared.Info.{Info}
use Rattle.cell.specs.Types.{digits_of, scale_of, same_type}
use Rattle.cell.specs.declared.Type.{«Type» as Ty}
use Rattle.cell.specs.declared.Value.{Value}
use Rattle.catalogue.specs.Tables.{Table, TabRef, tables_from}
use Rattle.view.specs.Ast.{Exp, Parsed, ok, refused}
use Rattle.view.specs.Ast as ast
use Rattle.view.specs.Record.{node_at}
use Rattle.view.specs.Parse.{parse_value}
use Rattle.view.specs.declared.Node.{Node}
use Rattle.view.specs.declared.Node.TheVariants.{Const, Binop, Not, If, Col, Classof, Let}
use Rattle.view.proofs.Read as read
use Rattle.view.proofs.Induction.{parse_ind, value_ends}
use Rattle.scope.specs.Scopes.{Open, local, Hit, Only, find}
use Rattle.scope.specs.Table.{scopes_of, infos_of, found_of}
use Rattle.scope.specs.Entry.{local_scope}
use Rattle.scope.specs.declared.Scope.{Scope}
use Rattle.scope.specs.declared.Found.{Found}
use Rattle.scope.proofs.Named.{names_length}
use Rattle.resolve.specs.Expr.{Expr}
use Rattle.resolve.specs.Expr as expr
use Rattle.resolve.specs.Resolve.{Out, good, bad, brought, resolve}
use Rattle.resolve.specs.Notes.{notes_of, Noted, NotedBy, marked, found_note, marked_at}
use Rattle.resolve.specs.Typed.{known_of, typed_at, typed_by}
use Rattle.resolve.specs.Claims.{Narrow, Ready, answer_at}
use Rattle.resolve.specs.declared.Files.{Files}
use Rattle.resolve.specs.declared.Known.{Known}
use Rattle.resolve.proofs.Inversion.{ColGood, of_column, of_local, ClassGood, typed_good, const_good, bin_good, neg_good, if_good, exists_good, single_good, let_good, col_good, classof_good}
use Rattle.resolve.proofs.Narrow.{narrow_type}
use Rattle.resolve.proofs.Turns.{after}
use Rattle.resolve.proofs.Scoped.{body_scopes}
use Rattle.resolve.proofs.Noting.{put_cons, put_last, chain, limb_notes, mark_put, mark_before, length_marked, length_limb}

-- ---- over a catalogue and the open scopes

module _ (cat : List Table) (Γ : List Open) (P : Parsed Exp) where
  -- where the walk refuses, nothing is said of the notes
  pub unnoted : (k : ℕ) (is : List Info) (at : ℕ) (o o' : List ℕ) (i p : ℕ) → refusal i p ≡ typed_by k cat Γ is P → NotedBy cat Γ P at o o'
  unfolding NotedBy Noted typed_by typed_at
  unnoted k is at o o' i p e = go P e
    where
      by : (next : ℕ) (r : Out) → refusal i p ≡ typed_at k is next r → Noted r at o o'
      by next (good x t) g = absurd (let z : ◌≡◌ {A = ℕ} 0 1 = cc in omega arith)
      by next (bad j q) g = tt

      go : (Q : Parsed Exp) → refusal i p ≡ typed_by k cat Γ is Q → NotedBy cat Γ Q at o o'
      go (ok e next) g = by next (resolve cat Γ e) g
      go (refused j q) g = tt

  module _ (e : Exp) (next : ℕ) (f : P ≡ ok e next) where
    -- a value that was read and keeps the rules is noted
    pub noted_is : (at : ℕ) (o o' : List ℕ) (x : Expr) (t : Ty) → resolve cat Γ e ≡ good x t → NotedBy cat Γ P at o o' → o' ≡ put o at (notes_of x)
    unfolding NotedBy Noted
    noted_is at o o' x t g h = rw (f, g) at h

    pub noted_by : (at : ℕ) (o o' : List ℕ) → ((x : Expr) (t : Ty) → resolve cat Γ e ≡ good x t → o' ≡ put o at (notes_of x)) → NotedBy cat Γ P at o o'
    unfolding NotedBy
    noted_by at o o' h = rw f (go (resolve cat Γ e) refl)
      where
        go : (r : Out) → resolve cat Γ e ≡ r → Noted r at o o'
        go (good x t) g = unfold Noted in h x t g
        go (bad i p) g = unfold Noted in tt

    -- one note
    leaf_noted : (at w : ℕ) (o o' : List ℕ) → ((x : Expr) (t : Ty) → resolve cat Γ e ≡ good x t → notes_of x ≡ w ∷ []) → o' ≡ set o at w → NotedBy cat Γ P at o o'
    leaf_noted at w o o' h g =
        noted_by at o o' (λ x t r. g ∙ sym (put_one o at w) ∙ ap (put o at) (sym (h x t r)))

    -- what the walk knows of it
    pub known_of_lem : (k : ℕ) (is : List Info) (h : Known) (x : Expr) (t : Ty) → resolve cat Γ e ≡ good x t → typed_by k cat Γ is P ≡ fine h → h ≡ known_of k is next x t
    known_of_lem k is h x t g b =
        let z : fine (known_of k is next x t) ≡ fine h = sym (typed_good k cat Γ is P e next x t f g) ∙ b in
        cc

-- ---- how many notes

brought_notes : (s t : Ty) (x : Expr) → Narrow t → notes_of (brought s t x) ≡ limb_notes s t (notes_of x)
unfolding brought
brought_notes s t x n = go (same_type s t)
  where
    small : (16 * digits_of t + scale_of t) % 256 ≡ 16 * digits_of t + scale_of t
    small = let h = n.digits in let k = n.scale in omega arith

    go : (b : Bool) → notes_of (cond b x (expr.Expr.conv (digits_of t) (scale_of t) x)) ≡ cond b (notes_of x) (marked ((16 * digits_of t + scale_of t) % 256) (notes_of x))
    go true = refl
    go false = unfold notes_of in ap (λ (m : ℕ). marked m (notes_of x)) (sym small)

length_brought : (s t : Ty) (x : Expr) → length (notes_of (brought s t x)) ≡ length (notes_of x)
unfolding brought
length_brought s t x = go (same_type s t)
  where
    go : (b : Bool) → length (notes_of (cond b x (expr.Expr.conv (digits_of t) (scale_of t) x))) ≡ length (notes_of x)
    go true = refl
    go false = unfold notes_of in length_marked _ (notes_of x)

both : (xs ys : List ℕ) → suc (length (xs ++ ys)) ≡ 1 + (length xs + length ys)
both xs ys = let h = length-append xs ys in omega arith

col_length : (o : Only Hit) (x : Expr) (t : Ty) → ColGood o x t → length (notes_of x) ≡ 1
unfolding notes_of
col_length o x t (of_column a b c w k e f g) = rw f
col_length o x t (of_local a e f) = rw f

-- AS MANY AS THERE ARE RECORDS
pub notes_length : (cat : List Table) (v : List ℕ) (n d at : ℕ) (e : Exp) (k : ℕ) → parse_value v n d at ≡ ok e k
    → (Γ : List Open) (X : Expr) (U : Ty) → resolve cat Γ e ≡ good X U → at + length (notes_of X) ≡ k
unfolding notes_of
notes_length cat v n d at e k h =
    parse_ind v n (λ d at e k. (Γ : List Open) (X : Expr) (U : Ty) → resolve cat Γ e ≡ good X U → at + length (notes_of X) ≡ k)
    (λ d at t x z l g Γ X U e. let a : length (notes_of X) ≡ 1 = ap (λ (y : Expr). length (notes_of y)) (const_good cat Γ X U at t x e).is in omega arith)
    (λ d at name q z l g Γ X U e. let a = col_length _ X U (col_good cat Γ X U at name q e) in omega arith)
    (λ d at name q z l g Γ X U e. let a : length (notes_of X) ≡ 1 = ap (λ (y : Expr). length (notes_of y)) (classof_good cat Γ X U at name q e).is in omega arith)
    (λ d at y k z l g ih Γ X U e.
    let b = neg_good cat Γ X U at y e in
    let a : length (notes_of X) ≡ 1 + length (notes_of b.y) = ap (λ (y : Expr). length (notes_of y)) b.is ∙ omega arith in
    let i = ih Γ b.y _ b.operand in
    omega arith)
    (λ d at op y w m k z l g ih jh Γ X U e.
    let b = bin_good cat Γ X U at op y w e in
    let a : length (notes_of X) ≡ 1 + (length (notes_of b.y) + length (notes_of b.z)) = ap (λ (y : Expr). length (notes_of y)) b.is ∙ both (notes_of b.y) (notes_of b.z) in
    let i = ih Γ b.y b.s b.left in
    let j = jh Γ b.z b.u b.right in
    omega arith)
    (λ d at name y w m k z l g ih jh Γ X U e.
    let b = let_good cat Γ X U at name y w e in
    let a : length (notes_of X) ≡ 1 + (length (notes_of b.y) + length (notes_of b.z)) = ap (λ (y : Expr). length (notes_of y)) b.is ∙ both (notes_of b.y) (notes_of b.z) in
    let i = ih Γ b.y b.s b.value in
    let j = jh (local name b.s ∷ Γ) b.z U b.body in
    omega arith)
    (λ d at y w u m j k z l g ih jh kh Γ X U e.
    let b = if_good cat Γ X U at y w u e in
    let p = brought b.s U b.y in
    let q = brought b.u U b.z in
    let a : length (notes_of X) ≡ 1 + (length (notes_of b.w) + length (notes_of p ++ notes_of q)) = ap (λ (y : Expr). length (notes_of y)) b.is ∙ both (notes_of b.w) (notes_of p ++ notes_of q) in
    let r = length-append (notes_of p) (notes_of q) in
    let s = length_brought b.s U b.y in
    let t = length_brought b.u U b.z in
    let i₁ = ih Γ b.w _ b.condition in
    let i₂ = jh Γ b.y b.s b.left in
    let i₃ = kh Γ b.z b.u b.right in
    omega arith)
    (λ d at a q y k z l g o ih Γ X U e.
    let b = exists_good cat Γ X U at q _ y e in
    let ns = map (λ (t : TabRef). t.num) b.tabs in
    let c : length (notes_of X) ≡ 1 + (length ns + length (notes_of b.y)) = ap (λ (y : Expr). length (notes_of y)) b.is ∙ both ns (notes_of b.y) in
    let r = length-map b.tabs (λ (t : TabRef). t.num) in
    let s = names_length cat v (at + 1) a b.tabs b.there in
    let i = ih _ b.y _ b.test in
    omega arith)
    (λ d at a q y w m k z l g o ih jh Γ X U e.
    let b = single_good cat Γ X U at q _ y w e in
    let ns = map (λ (t : TabRef). t.num) b.tabs in
    let c : length (notes_of X) ≡ 1 + (length ns + length (notes_of b.y ++ notes_of b.z)) = ap (λ (y : Expr). length (notes_of y)) b.is ∙ both ns (notes_of b.y ++ notes_of b.z) in
    let r = length-map b.tabs (λ (t : TabRef). t.num) in
    let s = names_length cat v (at + 1) a b.tabs b.there in
    let u = length-append (notes_of b.y) (notes_of b.z) in
    let i = ih _ b.y _ b.test in
    let j = jh _ b.z b.s b.value in
    omega arith)
    d at h

-- ---- the note of a name

col_note : (is : List Info) (o : Only Hit) (x : Expr) (t : Ty) (h : Found) (n : ℕ) → ColGood o x t → h ≡ found_of is o → n ≡ found_note h → notes_of x ≡ n ∷ []
unfolding found_of found_note notes_of
col_note is o x t h n (of_column a b c w k e f g) i j = rw (f, j, i, e)
col_note is o x t h n (of_local a e f) i j = rw (f, j, i, e)

class_note : (is : List Info) (o : Only Hit) (x : Expr) (t : Ty) (h : Found) (n : ℕ) → ClassGood o x t → h ≡ found_of is o → n ≡ found_note h → notes_of x ≡ n ∷ []
unfolding found_of found_note notes_of
class_note is o x t h n g i j = rw (g.is, j, i, g.found)

-- ---- THE WALK

-- the notes before and after the walk over a value
abbrev pub NotedAt : List ℕ → List ℕ → Files → List Scope → ℕ → ℕ → ℕ → List ℕ → List ℕ → Type 0
NotedAt c v f t deep d at o o' = NotedBy (tables_from c f.nc f.nc 0) (scopes_of c f.nc t deep) (parse_value v f.n d at) at o o'

module _ (c ss v : List ℕ) (f : Files) (t : List Scope) (deep d at : ℕ) (w : Ready c ss v f t deep d at) where
  abbrev cat : List Table
  cat = tables_from c f.nc f.nc 0

  abbrev Γ : List Open
  Γ = scopes_of c f.nc t deep

  abbrev is : List Info
  is = infos_of t deep

  -- LET: its note after those of its value
  module _ (name : ℕ) (g : node_at v at ≡ Let name) (x : Known) (b : answer_at c v f t deep (d - 1) (at + 1) ≡ fine x)
      (s : Scope) (u : List Scope) (p : s ≡ local_scope name x.ty x.info) (q : u ≡ set t deep s) where
    two_let : read.Two (parse_value v f.n (d - 1)) (at + 1) (parse_value v f.n d at) (ast.Exp.letin at name)
    two_let = read.let_read v f.n d at w.is_read refl g

    let_put : (o o₁ o₂ o₃ : List ℕ) → o₂ ≡ set o₁ at 0 → NotedAt c v f u (deep + 1) (d - 1) x.next o₂ o₃
        → NotedBy (tables_from c f.nc f.nc 0) (scopes_of c f.nc t deep) (parse_value v f.n (d - 1) (at + 1)) (at + 1) o o₁
        → (X : Expr) (T : Ty) → resolve cat Γ (ast.Exp.letin at name two_let.x two_let.y) ≡ good X T → o₃ ≡ put o at (notes_of X)
    unfolding notes_of known_of
    let_put o o₁ o₂ o₃ e h k X T r =
        let l = let_good cat Γ X T at name two_let.x two_let.y r in
        let n = known_of_lem cat Γ _ two_let.x two_let.mid two_let.first f.k is x l.y l.s l.value b in
        let m : two_let.mid ≡ x.next = ap (λ (z : Known). z.next) (sym n) in
        let y : x.ty ≡ l.s = ap (λ (z : Known). z.ty) n in
        let a : parse_value v f.n (d - 1) x.next ≡ ok two_let.y two_let.end = rw m at two_let.second in
        let z : resolve cat (scopes_of c f.nc u (deep + 1)) two_let.y ≡ good l.z T =
        ap (λ (Δ : List Open). resolve cat Δ two_let.y) (body_scopes c ss v f t deep d at w name g x b s u p q ∙ ap (λ (τ : Ty). local name τ ∷ scopes_of c f.nc t deep) y) ∙ l.body in
        let i = noted_is cat Γ _ two_let.x two_let.mid two_let.first (at + 1) o o₁ l.y l.s l.value k in
        let j = noted_is cat (scopes_of c f.nc u (deep + 1)) _ two_let.y two_let.end a x.next o₂ o₃ l.z T z h in
        let len = notes_length cat v f.n (d - 1) (at + 1) two_let.x two_let.mid two_let.first Γ l.y l.s l.value in
        chain o at (0 ∷ notes_of l.y) o₂ x.next (notes_of l.z) o₃
        (e ∙ ap (λ (ws : List ℕ). set ws at 0) i ∙ put_last o at 0 (notes_of l.y)) j (omega arith)
        ∙ ap (put o at) (sym (ap notes_of l.is))

    pub let_noted : (o o₁ o₂ o₃ : List ℕ) → o₂ ≡ set o₁ at 0 → NotedAt c v f u (deep + 1) (d - 1) x.next o₂ o₃ → NotedAt c v f t deep (d - 1) (at + 1) o o₁ → NotedAt c v f t deep d at o o₃
    let_noted o o₁ o₂ o₃ e h k =
        noted_by cat Γ _ (ast.Exp.letin at name two_let.x two_let.y) two_let.end two_let.whole at o o₃ (let_put o o₁ o₂ o₃ e h k)

  module _ (nd : Node) (e : nd ≡ node_at v at) where
    -- CONSTANTS and names
    pub const_noted : (ty : Ty) (x : Value) → nd ≡ Const ty x → (o o' : List ℕ) → o' ≡ set o at 0 → NotedAt c v f t deep d at o o'
    unfolding notes_of
    const_noted ty x g o o' h =
        leaf_noted cat Γ _ (ast.Exp.const at ty x) (at + 1) (read.const_read v f.n d at w.is_read e g) at 0 o o'
        (λ X T r. ap notes_of (const_good cat Γ X T at ty x r).is) h

    module _ (name q : ℕ) (h : Found) (i : h ≡ found_of (infos_of t deep) (find name q 0 (scopes_of c f.nc t deep))) (n : ℕ) (j : n ≡ found_note h) (o o' : List ℕ) (k : o' ≡ set o at n) where
      pub col_noted : nd ≡ Col name q → NotedAt c v f t deep d at o o'
      col_noted g =
          leaf_noted cat Γ _ (ast.Exp.col at name q) (at + 1) (read.col_read v f.n d at w.is_read e g) at n o o'
          (λ X T r. col_note is (find name q 0 Γ) X T h n (col_good cat Γ X T at name q r) i j) k

      pub class_noted : nd ≡ Classof name q → NotedAt c v f t deep d at o o'
      class_noted g =
          leaf_noted cat Γ _ (ast.Exp.classof at name q) (at + 1) (read.classof_read v f.n d at w.is_read e g) at n o o'
          (λ X T r. class_note is (find name q 0 Γ) X T h n (classof_good cat Γ X T at name q r) i j) k

    -- NOT
    pub not_noted : nd ≡ Not → (o o₁ o₂ : List ℕ) → o₁ ≡ set o at 0 → NotedAt c v f t deep (d - 1) (at + 1) o₁ o₂ → NotedAt c v f t deep d at o o₂
    unfolding notes_of
    not_noted g o o₁ o₂ h k =
        let s = read.not_read v f.n d at w.is_read e g in
        noted_by cat Γ _ (ast.Exp.neg at s.x) s.end s.whole at o o₂
        (λ X T r.
        let b = neg_good cat Γ X T at s.x r in
        noted_is cat Γ _ s.x s.end s.first (at + 1) o₁ o₂ b.y _ b.operand k
        ∙ ap (λ (l : List ℕ). put l (at + 1) (notes_of b.y)) h ∙ put_cons o at 0 (notes_of b.y) ∙ ap (put o at) (sym (ap notes_of b.is)))

    -- BINOP: its note after those of its operands
    module _ (op : ℕ) (g : nd ≡ Binop op) (l : Checked Known) (a : l ≡ answer_at c v f t deep (d - 1) (at + 1)) (x : Known) (b : l ≡ fine x)
        (s : Known) (z : fine s ≡ answer_at c v f t deep d at) (n : ℕ) (i : n ≡ digits_of s.ty) (o o₁ o₂ o₃ : List ℕ)
        (h : NotedAt c v f t deep (d - 1) (at + 1) o o₁) (k : NotedAt c v f t deep (d - 1) x.next o₁ o₂) (j : o₃ ≡ set o₂ at n) where
      two_binop : read.Two (parse_value v f.n (d - 1)) (at + 1) (parse_value v f.n d at) (ast.Exp.binop at op)
      two_binop = read.binop_read v f.n d at w.is_read e g

      binop_put : (X : Expr) (T : Ty) → resolve cat Γ (ast.Exp.binop at op two_binop.x two_binop.y) ≡ good X T → o₃ ≡ put o at (notes_of X)
      unfolding notes_of known_of
      binop_put X T r =
          let y = bin_good cat Γ X T at op two_binop.x two_binop.y r in
          let m : two_binop.mid ≡ x.next = after f.k cat Γ is _ two_binop.first (sym a ∙ b) in
          let q : parse_value v f.n (d - 1) x.next ≡ ok two_binop.y two_binop.end = rw m at two_binop.second in
          let u : n ≡ digits_of T = i ∙ ap (λ (κ : Known). digits_of κ.ty) (known_of_lem cat Γ _ _ two_binop.end two_binop.whole f.k is s X T r (sym z)) in
          let i₁ = noted_is cat Γ _ two_binop.x two_binop.mid two_binop.first (at + 1) o o₁ y.y y.s y.left h in
          let i₂ = noted_is cat Γ _ two_binop.y two_binop.end q x.next o₁ o₂ y.z y.u y.right k in
          let len = notes_length cat v f.n (d - 1) (at + 1) two_binop.x two_binop.mid two_binop.first Γ y.y y.s y.left in
          let both = chain o (at + 1) (notes_of y.y) o₁ x.next (notes_of y.z) o₂ i₁ i₂ (omega arith) in
          j ∙ ap₂ (λ (ws : List ℕ) (p : ℕ). set ws at p) both u ∙ put_last o at (digits_of T) (notes_of y.y ++ notes_of y.z) ∙ ap (put o at) (sym (ap notes_of y.is))

      pub binop_noted : NotedAt c v f t deep d at o o₃
      binop_noted =
          noted_by cat Γ _ (ast.Exp.binop at op two_binop.x two_binop.y) two_binop.end two_binop.whole at o o₃ binop_put

    -- IF: both limbs are marked at the end
    module _ (g : nd ≡ If) (l : Checked Known) (a : l ≡ answer_at c v f t deep (d - 1) (at + 1)) (x : Known) (b : l ≡ fine x)
        (m : Checked Known) (h : m ≡ answer_at c v f t deep (d - 1) x.next) (y : Known) (i : m ≡ fine y)
        (n : Checked Known) (j : n ≡ answer_at c v f t deep (d - 1) y.next) (z : Known) (k : n ≡ fine z)
        (s : Known) (q : fine s ≡ answer_at c v f t deep d at) (o o₀ o₁ o₂ o₃ o₄ : List ℕ) (p₀ : o₀ ≡ set o at 0)
        (p₁ : NotedAt c v f t deep (d - 1) (at + 1) o₀ o₁) (p₂ : NotedAt c v f t deep (d - 1) x.next o₁ o₂) (p₃ : NotedAt c v f t deep (d - 1) y.next o₂ o₃)
        (p₄ : o₄ ≡ marked_at (marked_at o₃ x.next y.ty s.ty) y.next z.ty s.ty) where
      three_if : read.Three (parse_value v f.n (d - 1)) (at + 1) (parse_value v f.n d at) (ast.Exp.if at)
      three_if = read.if_read v f.n d at w.is_read e g

      limbs_put : (A ys zs : List ℕ) (r u T : Ty) → o₂ ≡ put A x.next ys → o₃ ≡ put o₂ y.next zs → y.next ≡ x.next + length ys → 0 < length ys → 0 < length zs
          → marked_at (marked_at o₃ x.next r T) y.next u T ≡ put A x.next (limb_notes r T ys ++ limb_notes u T zs)
      limbs_put A ys zs r u T e₂ e₃ m n₁ n₂ =
          ap (λ (ws : List ℕ). marked_at (marked_at ws x.next r T) y.next u T) (e₃ ∙ ap (λ (ws : List ℕ). put ws y.next zs) e₂)
          ∙ ap (λ (ws : List ℕ). marked_at ws y.next u T) (mark_before (put A x.next ys) x.next y.next r T zs (omega arith))
          ∙ mark_put (marked_at (put A x.next ys) x.next r T) y.next u T zs n₂
          ∙ ap (λ (ws : List ℕ). put ws y.next (limb_notes u T zs)) (mark_put A x.next r T ys n₁)
          ∙ chain A x.next (limb_notes r T ys) _ y.next (limb_notes u T zs) _ refl refl (let h = length_limb r T ys in omega arith)

      if_put : (X : Expr) (T : Ty) → resolve cat Γ (ast.Exp.if at three_if.x three_if.y three_if.z) ≡ good X T → o₄ ≡ put o at (notes_of X)
      unfolding notes_of known_of
      if_put X T r =
          let v₀ = if_good cat Γ X T at three_if.x three_if.y three_if.z r in
          let m₁ : three_if.mid ≡ x.next = after f.k cat Γ is _ three_if.first (sym a ∙ b) in
          let a₂ : parse_value v f.n (d - 1) x.next ≡ ok three_if.y three_if.late = rw m₁ at three_if.second in
          let m₂ : three_if.late ≡ y.next = after f.k cat Γ is _ a₂ (sym h ∙ i) in
          let a₃ : parse_value v f.n (d - 1) y.next ≡ ok three_if.z three_if.end = rw m₂ at three_if.third in
          let t₂ : y.ty ≡ v₀.s = ap (λ (κ : Known). κ.ty) (known_of_lem cat Γ _ three_if.y three_if.late a₂ f.k is y v₀.y v₀.s v₀.left (sym h ∙ i)) in
          let t₃ : z.ty ≡ v₀.u = ap (λ (κ : Known). κ.ty) (known_of_lem cat Γ _ three_if.z three_if.end a₃ f.k is z v₀.z v₀.u v₀.right (sym j ∙ k)) in
          let i₁ = noted_is cat Γ _ three_if.x three_if.mid three_if.first (at + 1) o₀ o₁ v₀.w _ v₀.condition p₁ in
          let i₂ = noted_is cat Γ _ three_if.y three_if.late a₂ x.next o₁ o₂ v₀.y v₀.s v₀.left p₂ in
          let i₃ = noted_is cat Γ _ three_if.z three_if.end a₃ y.next o₂ o₃ v₀.z v₀.u v₀.right p₃ in
          let l₁ = notes_length cat v f.n (d - 1) (at + 1) three_if.x three_if.mid three_if.first Γ v₀.w _ v₀.condition in
          let l₂ = notes_length cat v f.n (d - 1) x.next three_if.y three_if.late a₂ Γ v₀.y v₀.s v₀.left in
          let l₃ = notes_length cat v f.n (d - 1) y.next three_if.z three_if.end a₃ Γ v₀.z v₀.u v₀.right in
          let e₂ = value_ends v f.n (d - 1) x.next a₂ in
          let e₃ = value_ends v f.n (d - 1) y.next a₃ in
          let narrow = narrow_type c f.nc v f.n t deep d at _ three_if.end X T w.narrow three_if.whole r in
          let ended = limbs_put o₁ (notes_of v₀.y) (notes_of v₀.z) v₀.s v₀.u T i₂ i₃ (omega arith) (omega arith) (omega arith) in
          let first : o₁ ≡ put o at (0 ∷ notes_of v₀.w) = i₁ ∙ ap (λ (ws : List ℕ). put ws (at + 1) (notes_of v₀.w)) p₀ ∙ put_cons o at 0 (notes_of v₀.w) in
          let whole : o₄ ≡ marked_at (marked_at o₃ x.next v₀.s T) y.next v₀.u T =
          p₄ ∙ ap (λ (κ : Known). marked_at (marked_at o₃ x.next y.ty κ.ty) y.next z.ty κ.ty) (known_of_lem cat Γ _ _ three_if.end three_if.whole f.k is s X T r (sym q))
          ∙ ap₂ (λ (τ υ : Ty). marked_at (marked_at o₃ x.next τ T) y.next υ T) t₂ t₃ in
          chain o at (0 ∷ notes_of v₀.w) o₁ x.next (limb_notes v₀.s T (notes_of v₀.y) ++ limb_notes v₀.u T (notes_of v₀.z)) o₄ first (whole ∙ ended) (omega arith)
          ∙ ap (put o at) (sym (ap notes_of v₀.is ∙ ap₂ (λ (ys zs : List ℕ). 0 ∷ (notes_of v₀.w ++ (ys ++ zs))) (brought_notes v₀.s T v₀.y narrow) (brought_notes v₀.u T v₀.z narrow)))

      pub if_noted : NotedAt c v f t deep d at o o₄
      if_noted =
          noted_by cat Γ _ (ast.Exp.if at three_if.x three_if.y three_if.z) three_if.end three_if.whole at o o₄ if_put
