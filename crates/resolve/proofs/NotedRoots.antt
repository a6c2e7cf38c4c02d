-- The notes and the ends of several values and of a whole view: one law for each place of the code.
-- Assumes nothing.
use Prim.Native.Nat.{ℕ, ◌+◌, ◌-◌, ◌<◌, ◌≤◌}
use mathlib.Core.Path.{◌≡◌, refl, sym, ap, ◌∙◌}
use mathlib.Core.Bool.{Bool, true, false, cond}
use mathlib.Core.List.{List, [], ◌∷◌, ◌++◌}
use native.Mathlib.Omega.{arith}
use lib.Dec.{eqb}
use lib.ListN.{length, set, length-set, replicate}
use Rattle.word.specs.Buffer.{put}
use Rattle.word.proofs.Writing.{put_nil, length_put}
use Rattle.word.specs.Refusal.{Checked, fine, refusal}
use Rattle.class.specs.declared.Info.{Info}
use Rattle.class.specs.declared.Info.TheVariants.{Fixed}
use Rattle.cell.specs.Types.{kind_of}
use Rattle.cell.specs.declared.Type.{«Type» as Ty}
use Rattle.catalogue.specs.Tables.{Table, TabRef, tables_from}
use Rattle.view.specs.Ast.{Exp, Parsed, ok}
use Rattle.view.specs.Parse.{many, names_at, parse_block, parse_value}
use Rattle.view.proofs.Read.{more_ok, none_ok}
use Rattle.scope.specs.Scopes.{Open}
use Rattle.scope.specs.Table.{scopes_of, infos_of}
use Rattle.scope.specs.Blocks.{tables_named}
use Rattle.scope.specs.Entry.{opened_by}
use Rattle.scope.specs.declared.Scope.{Scope}
use Rattle.scope.proofs.Named.{names_length}
use Rattle.resolve.specs.Expr.{Expr}
use Rattle.resolve.specs.Resolve.{Out, good, bad, resolve, Outs, goods, bads, also_out, resolve_all, Resolved, select, refused as denied, with_values, with_test}
use Rattle.resolve.specs.Notes.{notes_of, Noted, NotedBy, notes_all, NotedAll, NotedView, end_note, ends_of, EndedAll, EndedView}
use Rattle.resolve.specs.Infos.{class_info}
use Rattle.resolve.specs.Typed.{known_of, typed_by}
use Rattle.resolve.specs.Claims.{or_no_table, answer_at, Rooted, resolved_by, resolved_all, verdict_of, verdict_all}
use Rattle.resolve.specs.declared.Files.{Files}
use Rattle.resolve.specs.declared.Known.{Known}
use Rattle.resolve.specs.declared.Sums.{Sums}
use Rattle.resolve.proofs.Turns.{after}
use Rattle.resolve.proofs.Roots.{Left, parts, there, root_infos, out_parts, values_at}
use Rattle.resolve.proofs.Noting.{put_cons, chain}
use Rattle.resolve.proofs.Noted.{known_of_lem, notes_length}

-- SEVERAL VALUES
all_ends : (k : ℕ) (is : List Info) (vs : Outs) (at i : ℕ) (o o' : List ℕ) → EndedAll k is vs at i o o' → length o' ≡ length o
unfolding EndedAll
all_ends k is (goods xs ts) at i o o' h = ap length h ∙ length_put o i (ends_of k is at xs)
all_ends k is (bads j p) at i o o' h = h

-- of the notes and ends of values that are refused little is said
pub all_unnoted : (k : ℕ) (is : List Info) (vs : Outs) (at : ℕ) (o o' : List ℕ) (i p : ℕ) → refusal i p ≡ verdict_all k is vs → NotedAll vs at o o'
unfolding NotedAll verdict_all
all_unnoted k is (goods xs ts) at o o' i p e = absurd (let z : ◌≡◌ {A = ℕ} 0 1 = cc in omega arith)
all_unnoted k is (bads j q) at o o' i p e = tt

pub all_unended : (k : ℕ) (is : List Info) (vs : Outs) (at n : ℕ) (s s' : List ℕ) (i p : ℕ) → refusal i p ≡ verdict_all k is vs → length s' ≡ length s → EndedAll k is vs at n s s'
unfolding EndedAll verdict_all
all_unended k is (goods xs ts) at n s s' i p e m = absurd (let z : ◌≡◌ {A = ℕ} 0 1 = cc in omega arith)
all_unended k is (bads j q) at n s s' i p e m = m

also_noted : (r : Out) (vs : Outs) (at next : ℕ) (o o₁ o₂ : List ℕ) → Noted r at o o₁ → NotedAll vs next o₁ o₂ → ((x : Expr) (t : Ty) → r ≡ good x t → next ≡ at + length (notes_of x))
    → NotedAll (also_out r vs) at o o₂
unfolding Noted NotedAll also_out notes_all
also_noted (good x t) (goods xs ts) at next o o₁ o₂ h k l = chain o at (notes_of x) o₁ next (notes_all xs) o₂ h k (l x t refl)
also_noted (good x t) (bads i p) at next o o₁ o₂ h k l = tt
also_noted (bad i p) vs at next o o₁ o₂ h k l = tt

also_ended : (k : ℕ) (is : List Info) (r : Out) (vs : Outs) (at next i n : ℕ) (o o₁ o₂ : List ℕ) → o₁ ≡ set o i n → EndedAll k is vs next (i + 1) o₁ o₂
    → ((x : Expr) (t : Ty) → r ≡ good x t → (next ≡ at + length (notes_of x)) × (n ≡ end_note next (class_info k is x))) → EndedAll k is (also_out r vs) at i o o₂
unfolding EndedAll also_out ends_of
also_ended k is (good x t) (goods xs ts) at next i n o o₁ o₂ h g l =
    let a = l x t refl in
    g ∙ ap (λ (ws : List ℕ). put ws (i + 1) (ends_of k is next xs)) h ∙ put_cons o i n (ends_of k is next xs)
    ∙ ap (λ (m : ℕ). put o i (m ∷ ends_of k is next xs)) a.1 ∙ ap (λ (m : ℕ). put o i (end_note m (class_info k is x) ∷ ends_of k is m xs)) a.0
also_ended k is (good x t) (bads j p) at next i n o o₁ o₂ h g l = g ∙ ap length h ∙ length-set o i n
also_ended k is (bad j p) vs at next i n o o₁ o₂ h g l = all_ends k is vs next (i + 1) o₁ o₂ g ∙ ap length h ∙ length-set o i n

-- what the walk knows of a value, as its end says it
end_known : (k : ℕ) (cat : List Table) (Γ : List Open) (is : List Info) (P : Parsed Exp) (e : Exp) (next : ℕ) (h : Known) (x : Expr) (t : Ty) (n : ℕ)
    → P ≡ ok e next → resolve cat Γ e ≡ good x t → typed_by k cat Γ is P ≡ fine h → n ≡ end_note h.next h.info → n ≡ end_note h.next (class_info k is x)
unfolding known_of
end_known k cat Γ is P e next h x t n f g b d = d ∙ ap (end_note h.next) (ap (λ (y : Known). y.info) (known_of_lem cat Γ P e next f k is h x t g b))

by_parsed : (cat : List Table) (Γ : List Open) (P : Parsed Exp) (e : Exp) (next at : ℕ) (o o' : List ℕ) → P ≡ ok e next → NotedBy cat Γ P at o o' → Noted (resolve cat Γ e) at o o'
unfolding NotedBy
by_parsed cat Γ P e next at o o' f h = rw f at h

module _ (c v : List ℕ) (f : Files) (t : List Scope) where
  -- what the values from record `at` on resolve to
  abbrev pub values_out : ℕ → ℕ → Outs
  values_out count at = resolved_all (tables_from c f.nc f.nc 0) (scopes_of c f.nc t 1) (many (parse_value v f.n 15) count at)

  -- j of them are noted, the next stands at m: whoever notes the rest has noted all
  pub record Onward (count at j m : ℕ) (o₀ o : List ℕ) : Type 0 where
    pub onward : (o' : List ℕ) → NotedAll (resolved_all (tables_from c f.nc f.nc 0) (scopes_of c f.nc t 1) (many (parse_value v f.n 15) (count - j) m)) m o o'
        → NotedAll (resolved_all (tables_from c f.nc f.nc 0) (scopes_of c f.nc t 1) (many (parse_value v f.n 15) count at)) at o₀ o'

  pub onward_begin : (count at : ℕ) (o : List ℕ) → Onward count at 0 at o o
  onward_begin count at o = let z : count - 0 ≡ count = omega arith in record { onward = λ o' h. rw z at h }

  module _ (count at j m : ℕ) (o₀ o : List ℕ) (w : Onward count at j m o₀ o) where
    pub onward_done : count ≤ j → NotedAll (resolved_all (tables_from c f.nc f.nc 0) (scopes_of c f.nc t 1) (many (parse_value v f.n 15) count at)) at o₀ o
    unfolding resolved_all resolve_all NotedAll notes_all
    onward_done l = let z : count - j ≡ 0 = omega arith in w.onward o (rw (z, none_ok (parse_value v f.n 15) m) (sym (put_nil o m)))

    module _ (ss : List ℕ) (n : ℕ) (p : Left c ss v f t count at j m n) (l : j < count) (r : Checked Known) (e : r ≡ answer_at c v f t 1 15 m) (x : Known) (g : r ≡ fine x) (o₁ : List ℕ)
        (h : NotedBy (tables_from c f.nc f.nc 0) (scopes_of c f.nc t 1) (parse_value v f.n 15 m) m o o₁) where
      step : (o' : List ℕ) → NotedAll (values_out (count - (j + 1)) x.next) x.next o₁ o' → NotedAll (values_out (count - j) m) m o o'
      unfolding resolved_all resolve_all
      step o' k =
          let b = more_ok (parse_value v f.n 15) (count - j) m (omega arith) p.several.is_read in
          let to : b.mid ≡ x.next = after f.k _ _ (infos_of t 1) _ b.first (sym e ∙ g) in
          let z : count - j - 1 ≡ count - (j + 1) = omega arith in
          let rest : many (parse_value v f.n 15) (count - (j + 1)) x.next ≡ ok b.tail b.end = rw (z, to) at b.rest in
          let i = by_parsed _ _ _ b.head b.mid m o o₁ b.first h in
          let q = rw rest at k in
          rw b.whole (also_noted _ _ m x.next o o₁ o' i q (λ y s d.
          let u = notes_length _ v f.n 15 m b.head b.mid b.first _ y s d in
          omega arith))

      pub onward_again : Onward count at (j + 1) x.next o₀ o₁
      onward_again = record { onward = λ o' k. w.onward o' (step o' k) }

  -- the same of their ends
  pub record Ending (count at j m : ℕ) (s₀ s : List ℕ) : Type 0 where
    pub long : length s ≡ length s₀
    pub onward : (s' : List ℕ)
        → EndedAll f.k (infos_of t 1) (resolved_all (tables_from c f.nc f.nc 0) (scopes_of c f.nc t 1) (many (parse_value v f.n 15) (count - j) m)) m (j + 1) s s'
        → EndedAll f.k (infos_of t 1) (resolved_all (tables_from c f.nc f.nc 0) (scopes_of c f.nc t 1) (many (parse_value v f.n 15) count at)) at 1 s₀ s'

  pub ending_begin : (count at : ℕ) (s : List ℕ) → Ending count at 0 at s s
  ending_begin count at s = let z : count - 0 ≡ count = omega arith in record { long = refl; onward = λ s' h. rw z at h }

  module _ (count at j m : ℕ) (s₀ s : List ℕ) (w : Ending count at j m s₀ s) where
    pub ending_done : count ≤ j → EndedAll f.k (infos_of t 1) (resolved_all (tables_from c f.nc f.nc 0) (scopes_of c f.nc t 1) (many (parse_value v f.n 15) count at)) at 1 s₀ s
    unfolding resolved_all resolve_all EndedAll ends_of
    ending_done l = let z : count - j ≡ 0 = omega arith in w.onward s (rw (z, none_ok (parse_value v f.n 15) m) (sym (put_nil s (j + 1))))

    module _ (ss : List ℕ) (n : ℕ) (p : Left c ss v f t count at j m n) (l : j < count) (r : Checked Known) (e : r ≡ answer_at c v f t 1 15 m) (x : Known) (g : r ≡ fine x)
        (a : ℕ) (d : a ≡ end_note x.next x.info) (s₁ : List ℕ) (h : s₁ ≡ set s (j + 1) a) where
      end_step : (s' : List ℕ) → EndedAll f.k (infos_of t 1) (values_out (count - (j + 1)) x.next) x.next (j + 1 + 1) s₁ s'
          → EndedAll f.k (infos_of t 1) (values_out (count - j) m) m (j + 1) s s'
      unfolding resolved_all resolve_all
      end_step s' k =
          let b = more_ok (parse_value v f.n 15) (count - j) m (omega arith) p.several.is_read in
          let to : b.mid ≡ x.next = after f.k _ _ (infos_of t 1) _ b.first (sym e ∙ g) in
          let z : count - j - 1 ≡ count - (j + 1) = omega arith in
          let rest : many (parse_value v f.n 15) (count - (j + 1)) x.next ≡ ok b.tail b.end = rw (z, to) at b.rest in
          let q = rw rest at k in
          rw b.whole (also_ended f.k (infos_of t 1) _ _ m x.next (j + 1) a s s₁ s' h q (λ y τ i.
          let u = notes_length _ v f.n 15 m b.head b.mid b.first _ y τ i in
          (omega arith, end_known f.k _ _ (infos_of t 1) _ b.head b.mid x y τ a b.first i (sym e ∙ g) d)))

      pub ending_again : Ending count at (j + 1) x.next s₀ s₁
      ending_again = record { long = ap length h ∙ length-set s (j + 1) a ∙ w.long; onward = λ s' k. w.onward s' (end_step s' k) }

-- THE WHOLE VIEW
pub view_unnoted : (k : ℕ) (R : Resolved) (o o' : List ℕ) (i p : ℕ) → refusal i p ≡ verdict_of k R → NotedView R o o'
unfolding NotedView verdict_of
view_unnoted k (select q ts) o o' i p e = absurd (let z : ◌≡◌ {A = ℕ} 0 1 = cc in omega arith)
view_unnoted k (denied j q) o o' i p e = tt

pub view_unended : (k : ℕ) (R : Resolved) (s s' : List ℕ) (i p : ℕ) → refusal i p ≡ verdict_of k R → length s' ≡ length s → EndedView k R s s'
unfolding EndedView verdict_of
view_unended k (select q ts) s s' i p e m = absurd (let z : ◌≡◌ {A = ℕ} 0 1 = cc in omega arith)
view_unended k (denied j q) s s' i p e m = m

-- the notes of a view that is taken are as many as before
pub taken_long : (k : ℕ) (R : Resolved) (o o' : List ℕ) (r : Checked Sums) (s : Sums) → r ≡ verdict_of k R → r ≡ fine s → NotedView R o o' → length o' ≡ length o
unfolding NotedView verdict_of
taken_long k (select q ts) o o' r s e f h = ap length h ∙ length_put o (1 + length q.from) (notes_of q.test ++ notes_all q.values)
taken_long k (denied i p) o o' r s e f h = absurd (let z : ◌≡◌ {A = ℕ} 0 1 = cc in omega arith)

test_noted : (ts : List TabRef) (r : Out) (vs : Outs) (at next : ℕ) (o o₁ o₂ : List ℕ) → Noted r at o o₁ → NotedAll vs next o₁ o₂ → at ≡ 1 + length ts
    → ((x : Expr) (t : Ty) → r ≡ good x t → next ≡ at + length (notes_of x)) → NotedView (with_test ts r vs) o o₂
unfolding Noted NotedAll NotedView with_test with_values
test_noted ts (good x t) (goods ys us) at next o o₁ o₂ h k a l = go (eqb (kind_of t) 1)
  where
    all : o₂ ≡ put o at (notes_of x ++ notes_all ys)
    all = chain o at (notes_of x) o₁ next (notes_all ys) o₂ h k (l x t refl)

    go : (b : Bool) → NotedView (cond b (select (record { from = ts; test = x; values = ys }) us) (denied 9 0)) o o₂
    go true = unfold NotedView in all ∙ ap (λ (i : ℕ). put o i (notes_of x ++ notes_all ys)) a
    go false = unfold NotedView in tt
test_noted ts (good x t) (bads i p) at next o o₁ o₂ h k a l = tt
test_noted ts (bad i p) vs at next o o₁ o₂ h k a l = tt

test_ended : (k : ℕ) (is : List Info) (ts : List TabRef) (r : Out) (vs : Outs) (at next n : ℕ) (o o₁ o₂ : List ℕ) → is ≡ Fixed 0 ∷ [] → o₁ ≡ set o 0 n → EndedAll k is vs next 1 o₁ o₂
    → at ≡ 1 + length ts → ((x : Expr) (t : Ty) → r ≡ good x t → (next ≡ at + length (notes_of x)) × (n ≡ end_note next (class_info k is x))) → EndedView k (with_test ts r vs) o o₂
unfolding EndedAll EndedView with_test with_values
test_ended k is ts (good x t) (goods ys us) at next n o o₁ o₂ m h g a l = go (eqb (kind_of t) 1)
  where
    all : o₂ ≡ put o 0 (ends_of k (Fixed 0 ∷ []) (1 + length ts) (x ∷ ys))
    all = unfold ends_of in
        g ∙ ap (λ (ws : List ℕ). put ws 1 (ends_of k is next ys)) h ∙ put_cons o 0 n (ends_of k is next ys)
        ∙ ap (λ (e : ℕ). put o 0 (e ∷ ends_of k is next ys)) (l x t refl).1
        ∙ ap (λ (e : ℕ). put o 0 (end_note e (class_info k is x) ∷ ends_of k is e ys)) ((l x t refl).0 ∙ ap (λ (e : ℕ). e + length (notes_of x)) a)
        ∙ ap (λ (js : List Info). put o 0 (end_note (1 + length ts + length (notes_of x)) (class_info k js x) ∷ ends_of k js (1 + length ts + length (notes_of x)) ys)) m

    go : (b : Bool) → EndedView k (cond b (select (record { from = ts; test = x; values = ys }) us) (denied 9 0)) o o₂
    go true = unfold EndedView in all
    go false = unfold EndedView in ap length all ∙ length_put o 0 (ends_of k (Fixed 0 ∷ []) (1 + length ts) (x ∷ ys))
test_ended k is ts (good x t) (bads i p) at next n o o₁ o₂ m h g a l = g ∙ ap length h ∙ length-set o 0 n
test_ended k is ts (bad i p) vs at next n o o₁ o₂ m h g a l = all_ends k is vs next 1 o₁ o₂ g ∙ ap length h ∙ length-set o 0 n

module _ (c ss v : List ℕ) (f : Files) (tables count : ℕ) (w : Rooted c ss v f tables count) (b : Scope)
    (q : fine b ≡ or_no_table (opened_by ss (tables_named (tables_from c f.nc f.nc 0) (names_at v 1 tables))))
    (l : Checked Known) (a : l ≡ answer_at c v f (replicate 16 b) 1 15 (1 + tables)) (x : Known) (g : l ≡ fine x) where
  module _ (o o₁ o₂ : List ℕ)
      (h : NotedBy (tables_from c f.nc f.nc 0) (scopes_of c f.nc (replicate 16 b) 1) (parse_value v f.n 15 (1 + tables)) (1 + tables) o o₁)
      (k : NotedAll (resolved_all (tables_from c f.nc f.nc 0) (scopes_of c f.nc (replicate 16 b) 1) (many (parse_value v f.n 15) count x.next)) x.next o₁ o₂) where
    pub root_noted : NotedView (resolved_by (tables_from c f.nc f.nc 0) (parse_block v f.n 15 (parse_value v f.n 15) tables count 1)) o o₂
    unfolding resolved_all
    root_noted =
        let p = parts c ss v f tables count w in
        let to : p.mid ≡ x.next = after f.k _ _ (infos_of (replicate 16 b) 1) _ p.first (sym a ∙ g) in
        let i = by_parsed _ _ _ w.is_read.tree.test p.mid (1 + tables) o o₁ p.first h in
        let j = rw (values_at c ss v f tables count w b q l a x g) at k in
        let m = names_length (tables_from c f.nc f.nc 0) v 1 tables _ (there c ss v f tables count w b q).found in
        rw (out_parts c ss v f tables count w b q) (test_noted _ _ _ (1 + tables) x.next o o₁ o₂ i j (omega arith) (λ y s d.
        let u = notes_length _ v f.n 15 (1 + tables) w.is_read.tree.test p.mid p.first _ y s d in
        omega arith))

  pub root_ended : (n : ℕ) → n ≡ end_note x.next x.info → (o o₁ o₂ : List ℕ) → o₁ ≡ set o 0 n
      → EndedAll f.k (infos_of (replicate 16 b) 1) (resolved_all (tables_from c f.nc f.nc 0) (scopes_of c f.nc (replicate 16 b) 1) (many (parse_value v f.n 15) count x.next)) x.next 1 o₁ o₂
      → EndedView f.k (resolved_by (tables_from c f.nc f.nc 0) (parse_block v f.n 15 (parse_value v f.n 15) tables count 1)) o o₂
  unfolding resolved_all
  root_ended n d o o₁ o₂ h k =
      let p = parts c ss v f tables count w in
      let to : p.mid ≡ x.next = after f.k _ _ (infos_of (replicate 16 b) 1) _ p.first (sym a ∙ g) in
      let j = rw (values_at c ss v f tables count w b q l a x g) at k in
      let m = names_length (tables_from c f.nc f.nc 0) v 1 tables _ (there c ss v f tables count w b q).found in
      rw (out_parts c ss v f tables count w b q) (test_ended f.k (infos_of (replicate 16 b) 1) _ _ _ (1 + tables) x.next n o o₁ o₂ (root_infos c ss v f tables count w b q) h j (omega arith) (λ y s i.
      let u = notes_length _ v f.n 15 (1 + tables) w.is_read.tree.test p.mid p.first _ y s i in
      (omega arith, end_known f.k _ _ (infos_of (replicate 16 b) 1) _ w.is_read.tree.test p.mid x y s n p.first i (sym a ∙ g) d)))
