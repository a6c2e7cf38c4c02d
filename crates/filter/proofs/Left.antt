-- What the walk leaves of an accepted view is what the writer of its tree requires: a note for each record after SELECT's tables, an end for its where and for each value.
-- Assumes nothing.
use Prim.Native.Nat.{ℕ, zero, suc, ◌+◌, ◌-◌, ◌<◌, ◌≤◌}
use mathlib.Core.Path.{◌≡◌, refl, sym, ap, ◌∙◌}
use mathlib.Core.List.{List, [], ◌∷◌}
use native.Mathlib.Omega.{arith}
use lib.ListN.{length, length-append}
use Rattle.word.specs.Buffer.{put}
use Rattle.word.specs.Header.{count_at}
use Rattle.word.specs.Refusal.{Checked, fine as given}
use Rattle.word.proofs.Writing.{length_put}
use Rattle.cell.specs.declared.Type.{«Type» as Ty}
use Rattle.cell.specs.declared.Type.TheVariants as T
use Rattle.catalogue.specs.Fault as fault
use Rattle.catalogue.specs.Tables.{Table, tables_from, catalogue_of}
use Rattle.catalogue.proofs.Listed.{catalogue_is}
use Rattle.store.specs.Rows.{All}
use Rattle.view.specs.Ast.{Exp, ok}
use Rattle.view.specs.Parse as parse
use Rattle.view.specs.Parse.{many, parse_value, parse_view}
use Rattle.view.proofs.Read.{was_read, none_ok, more_ok}
use Rattle.view.proofs.Whole.{Taken, taken}
use Rattle.scope.specs.Scopes.{Open}
use Rattle.scope.specs.Blocks.{tables_named, opened}
use Rattle.scope.proofs.Named.{names_length}
use Rattle.resolve.specs.Expr.{Expr, Select}
use Rattle.resolve.specs.Resolve.{goods, resolve_all, Resolved, select, refused, resolve_view}
use Rattle.resolve.specs.Claims.{resolved_by, verdict_of}
use Rattle.resolve.specs.Notes.{notes_of, notes_all, ends_of, NotedView, EndedView}
use Rattle.resolve.specs.declared.Sums.{Sums}
use Rattle.resolve.proofs.Inversion.{all_good, view_good}
use Rattle.resolve.proofs.Noted.{notes_length}
use Rattle.tree.specs.Trans.{expr_class}
use Rattle.tree.specs.Select.{root}
use Rattle.tree.proofs.Infos.{info_of_class}
use Rattle.tree.proofs.Notes.{notes_put}
use Rattle.label.specs.Left.{LeftAll, LeftView}
use Rattle.label.specs.Whole.{select_in, select_at}
use Rattle.label.proofs.Bridge.{Small, ends_number, left_all}
use Rattle.reading.specs.Demands.{Bytes}
use Rattle.filter.proofs.Fitting.{deep, info_fits, class_fits}
use Rattle.filter.proofs.Standing.{ValueSound, view_sound, root_words}

-- ---- as many notes as records

-- of several values in a row, the first at record `at`
several_notes : (cat : List Table) (v : List ℕ) (n d : ℕ) (Γ : List Open) (c at : ℕ) {es : List Exp} {k : ℕ} → many (parse_value v n d) c at ≡ ok es k → (xs : List Expr) (ts : List Ty) →
    resolve_all cat Γ es ≡ goods xs ts → (at + length (notes_all xs) ≡ k) × (length xs ≡ c)
unfolding notes_all resolve_all
several_notes cat v n d Γ zero at {es} {k} h xs ts e =
    let z : ok [] at ≡ ok es k = sym (none_ok (parse_value v n d) at) ∙ h in
    let q : at ≡ k = cc in
    let f : goods [] [] ≡ goods xs ts = ap (resolve_all cat Γ) (let p : [] ≡ es = cc in p) ∙ e in
    let r : xs ≡ [] = cc in
    rw r (omega arith, refl)
several_notes cat v n d Γ (suc c) at {es} {k} h xs ts e =
    let m = more_ok (parse_value v n d) (suc c) at (omega arith) (was_read h) in
    let z : suc c - 1 ≡ c = omega arith in
    let q : ok (m.head ∷ m.tail) m.end ≡ ok es k = sym m.whole ∙ h in
    let p : m.head ∷ m.tail ≡ es = cc in
    let j : m.end ≡ k = cc in
    let w = all_good cat Γ m.head m.tail xs ts (ap (resolve_all cat Γ) p ∙ e) in
    let a = notes_length cat v n d at m.head m.mid m.first Γ w.x w.t w.first in
    let b = several_notes cat v n d Γ c m.mid (ap (λ (i : ℕ). many (parse_value v n d) i m.mid) (sym z) ∙ m.rest) w.ys w.us w.others in
    rw w.is (omega (arith, length-append (notes_of w.x) (notes_all w.ys), b.0), ap suc b.1)

-- of an accepted view: its where's and its values' end with its last record, and it has at most 1,024 records and 32 values
record Short (s : Select) : Type 0 where
  notes : 1 + length s.from + length (notes_all (s.test ∷ s.values)) ≤ 1024
  ends : length (s.test ∷ s.values) ≤ 33

view_short : (cat : List Table) (v : List ℕ) (w : Taken v) (s : Select) (ts : List Ty) → resolve_view cat w.block ≡ select s ts → Short s
unfolding notes_all
view_short cat v w s ts e =
    let g = view_good cat w.block s ts e in
    let l = names_length cat v 1 w.tables s.from (ap (tables_named cat) (sym w.parts.names) ∙ g.there) in
    let a = notes_length cat v (count_at v) 15 (1 + w.tables) w.block.test w.parts.mid w.parts.first (opened s.from ∷ []) s.test T.Boolean g.test in
    let (b, n) = several_notes cat v (count_at v) 15 (opened s.from ∷ []) w.values w.parts.mid w.parts.rest s.values ts g.values in
    record { notes = omega (arith, length-append (notes_of s.test) (notes_all s.values), w.few); ends = omega (arith, w.few_values) }

-- ---- what is known of the values' classes are words

values_small : (k : ℕ) → k < 65536 → (xs : List Expr) → All ValueSound xs → Small k root xs
unfolding Small
values_small k l [] h = tt
values_small k l (x ∷ xs) h =
    (rw (info_of_class k root x) at (info_fits (deep x) (expr_class k root x) (class_fits k l x h.0.0 root root_words)), values_small k l xs h.1)

-- ---- THE VIEW, its notes and ends written over lists that are long enough

module _ (c v : List ℕ) (tables k : ℕ) (fine : fault.check_of c ≡ given tables) (cat_bytes : Bytes c) (view_bytes : Bytes v) (k_small : k < 65536)
    (o ws p es : List ℕ) (notes_long : 1024 ≤ length o) (ends_long : 33 ≤ length p) where
  left_by : (w : Taken v) (R : Resolved) (u : Sums) → resolve_view (catalogue_of c) w.block ≡ R → verdict_of k R ≡ given u → NotedView R o ws → EndedView k R p es →
      LeftAll k root ws es 0 ((select_in R).test ∷ (select_in R).values) (1 + length (select_in R).from)
  unfolding NotedView EndedView verdict_of select_in
  left_by w (select s ts) u e f n d =
      let at = 1 + length s.from in
      let xs = s.test ∷ s.values in
      let h = view_short (catalogue_of c) v w s ts e in
      let g = view_sound c v tables (count_at v) w.block s ts cat_bytes view_bytes fine w.whole e in
      let a : ws ≡ put o at (notes_all xs) = unfold notes_all in n in
      let l : length ws ≡ length o = ap length a ∙ length_put o at (notes_all xs) in
      let m : length es ≡ length p = ap length d ∙ length_put p 0 (ends_of k root at xs) in
      let i = ends_number k root at xs in
      left_all k root ws es 0 xs at (omega (arith, h.notes)) (omega (arith, h.notes)) (omega (arith, h.ends)) (values_small k k_small xs (g.test, g.values))
      (rw a (notes_put o at (notes_all xs) (omega (arith, h.notes))))
      (rw (d, ← i) (notes_put p 0 (ends_of k root at xs) (omega (arith, h.ends))))
  left_by w (refused i j) u e f n d = absurd (let z : ◌≡◌ {A = ℕ} 0 1 = cc in omega arith)

  pub left_view : (n : ℕ) {m : ℕ} {u : Sums} → n ≡ count_at c → given m ≡ parse.check_of v →
      given u ≡ verdict_of k (resolved_by (tables_from c n n 0) (parse_view v)) → NotedView (resolved_by (tables_from c n n 0) (parse_view v)) o ws →
      EndedView k (resolved_by (tables_from c n n 0) (parse_view v)) p es → LeftView c v (record { nc = n; tables = tables; n = m; k = k }) ws es
  unfolding LeftView select_at resolved_by
  left_view n {m} {u} a e g b d =
      let t = taken v e refl in
      left_by t (resolved_by (tables_from c n n 0) (parse_view v)) u (sym (ap (λ (cat : List Table). resolved_by cat (parse_view v)) (catalogue_is c n a) ∙ ap (resolved_by (catalogue_of c)) t.whole)) (sym g) b d
