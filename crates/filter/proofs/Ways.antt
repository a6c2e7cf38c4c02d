-- One law for each way out of the two jobs, in the form in which the code holds the facts.
-- Assumes nothing.
use Prim.Native.Nat.{ℕ, ◌+◌, ◌*◌, ◌≤◌, ◌<◌, min}
use mathlib.Core.Path.{◌≡◌, refl, sym, ap, subst, ◌∙◌}
use mathlib.Core.Bool.{Bool, true, false, cond, ◌&&◌}
use mathlib.Core.List.{List}
use native.Mathlib.Omega.{arith}
use borrow.Author.Tests.{leb-true, le-leb}
use lib.Dec.{leb}
use lib.ListN.{length}
use Rattle.std.specs.Prelude.{Ok}
use Rattle.word.specs.Buffer.{Wrote, Room}
use Rattle.word.specs.Header.{count_at}
use Rattle.word.specs.Refusal.{Checked, fine, refusal, and_then}
use Rattle.word.proofs.Writing.{put_start}
use Rattle.catalogue.specs.Fault as fault
use Rattle.catalogue.specs.Tables.{Table, tables_from, catalogue_of}
use Rattle.catalogue.specs.Starts.{starts_array}
use Rattle.catalogue.proofs.Meaning.{accepted, taken_starts}
use Rattle.catalogue.proofs.Listed.{catalogue_is}
use Rattle.store.specs.Layout as layout
use Rattle.view.specs.Ast.{Block, Parsed, ok, refused}
use Rattle.view.specs.Parse as parse
use Rattle.view.proofs.Laws.{and_left, and_right}
use Rattle.view.proofs.Whole as whole
use Rattle.resolve.specs.Resolve as resolve
use Rattle.resolve.specs.Claims as claims
use Rattle.resolve.specs.Sizes.{sums_of}
use Rattle.resolve.specs.declared.Files.{Files}
use Rattle.resolve.specs.declared.Sums.{Sums}
use Rattle.tree.specs.Tree.{SelectTree, size_select, tree_file}
use Rattle.tree.specs.Select.{translated}
use Rattle.tree.proofs.Sizes.{length_file}
use Rattle.filter.specs.Jobs.{resolved_by, view_by, tree_fits, tree_of, over, result_by, held_by, translate, Translated, translate_over, answer, Answered}
use Rattle.label.specs.Whole.{select_in, select_at, tree_at, Viewed}
use Rattle.filter.specs.Steps.{TreeGiven, BothGiven}

-- ---- the tree of a resolved view: 10, or written

module _ (t : SelectTree) (size : ℕ) (o : List ℕ) (e : size ≡ min (size_select t) 8191) where
  pub count_is : size ≤ 8190 → size ≡ size_select t
  count_is h = omega arith

  pub has_room : size ≤ 8190 → 8 + 8 * size ≤ length o → Room o 0 (tree_file t)
  has_room h g = record { within = omega (arith, count_is h, length_file t) }

  -- written
  pub tree_written : {o' : List ℕ} {end : ℕ} → size ≤ 8190 → 8 + 8 * size ≤ length o → Wrote o 0 (tree_file t) o' end → TreeGiven (tree_fits (length o) t) o o' (fine size)
  unfolding tree_fits result_by held_by over
  tree_written {o'} {end} h g w =
      let p = count_is h in
      let few = le-leb (size_select t) 8190 (omega (arith, p)) in
      let short = le-leb (8 + 8 * size_select t) (length o) (omega (arith, p)) in
      record { says = rw (few, short) (ap fine p); holds = rw (few, short) (w.now_is ∙ put_start o (tree_file t) (omega (arith, p, length_file t))) }

  -- 10: too many records, or too long for the buffer
  too_large : (size ≤ 8190 → length o < 8 + 8 * size) → tree_fits (length o) t ≡ refusal 10 0
  unfolding tree_fits
  too_large h = go (leb (size_select t) 8190 && leb (8 + 8 * size_select t) (length o)) refl
    where
      go : (z : Bool) → (leb (size_select t) 8190 && leb (8 + 8 * size_select t) (length o)) ≡ z → cond z (fine t) (refusal 10 0) ≡ refusal 10 0
      go true g =
          let few = leb-true (size_select t) 8190 (and_left (leb (size_select t) 8190) (leb (8 + 8 * size_select t) (length o)) g) in
          let short = leb-true (8 + 8 * size_select t) (length o) (and_right (leb (size_select t) 8190) (leb (8 + 8 * size_select t) (length o)) g) in
          absurd (omega (arith, h (omega arith)))
      go false g = refl

  pub tree_large : (size ≤ 8190 → length o < 8 + 8 * size) → TreeGiven (tree_fits (length o) t) o o (refusal 10 0)
  unfolding result_by held_by
  tree_large h = record { says = rw (too_large h); holds = rw (too_large h) }

-- ---- a view over an accepted catalogue

-- a refusal leaves the buffer
tree_refused : (x : Checked SelectTree) (i p : ℕ) (o : List ℕ) → x ≡ refusal i p → TreeGiven x o o (refusal i p)
unfolding result_by held_by
tree_refused x i p o e = record { says = rw e; holds = rw e }

-- the view's structure, names and types in one
by_names : (cat : List Table) (P : Parsed Block) → view_by cat P ≡ resolved_by (claims.resolved_by cat P)
unfolding view_by resolved_by claims.resolved_by
by_names cat (ok b end) = refl
by_names cat (refused i p) = refl

names_refused : (k : ℕ) (x : resolve.Resolved) (i p : ℕ) → refusal i p ≡ claims.verdict_of k x → resolved_by x ≡ refusal i p
unfolding claims.verdict_of resolved_by
names_refused k (resolve.select s ts) i p e = absurd (let z : ◌≡◌ {A = ℕ} 0 1 = cc in omega arith)
names_refused k (resolve.refused j m) i p e = let a : j ≡ i = cc in let b : m ≡ p = cc in rw (a, b)

names_fine : (k : ℕ) (u : Sums) (x : resolve.Resolved) → fine u ≡ claims.verdict_of k x → resolved_by x ≡ fine (select_in x)
unfolding claims.verdict_of resolved_by select_in
names_fine k u (resolve.select s ts) e = refl
names_fine k u (resolve.refused j m) e = absurd (let z : ◌≡◌ {A = ℕ} 0 1 = cc in omega arith)

names_sums : (k : ℕ) (u : Sums) (x : resolve.Resolved) → fine u ≡ claims.verdict_of k x → u ≡ sums_of k (select_in x)
unfolding claims.verdict_of select_in
names_sums k u (resolve.select s ts) e = cc
names_sums k u (resolve.refused j m) e = absurd (let z : ◌≡◌ {A = ℕ} 0 1 = cc in omega arith)

module _ (c v : List ℕ) (k q room : ℕ) where
  -- the tables that the code reads are the catalogue's
  by_files : (n : ℕ) → n ≡ count_at c → tree_of c v k q room ≡ and_then (resolved_by (claims.resolved_by (tables_from c n n 0) (parse.parse_view v))) (λ s. tree_fits room (translated k q s))
  unfolding tree_of
  by_files n e = rw (catalogue_is c n e, by_names (catalogue_of c) (parse.parse_view v))

  view_denied : (i p : ℕ) → refusal i p ≡ parse.check_of v → tree_of c v k q room ≡ refusal i p
  unfolding tree_of view_by
  view_denied i p e = rw (whole.denied v e refl)

  names_denied : (n l : ℕ) (i p : ℕ) → n ≡ count_at c → refusal i p ≡ claims.verdict_of l (claims.resolved_by (tables_from c n n 0) (parse.parse_view v)) → tree_of c v k q room ≡ refusal i p
  names_denied n l i p e f = by_files n e ∙ rw (names_refused l (claims.resolved_by (tables_from c n n 0) (parse.parse_view v)) i p f)

  names_taken : (f : Files) (u : Sums) → f.nc ≡ count_at c → f.k ≡ k → fine u ≡ claims.verdict_of f.k (claims.resolved_by (tables_from c f.nc f.nc 0) (parse.parse_view v)) →
      tree_of c v k q room ≡ tree_fits room (tree_at c v f q)
  unfolding tree_at select_at
  names_taken f u e p g = by_files f.nc e ∙ rw (p, names_fine f.k u (claims.resolved_by (tables_from c f.nc f.nc 0) (parse.parse_view v)) g)

-- what the calls require
module _ (c : List ℕ) (t : ℕ) (e : fault.check_of c ≡ fine t) where
  pub cat_header : 6 + 2 ≤ length c
  cat_header = omega (arith, (accepted c t e).long_enough)

  pub cat_long : (n : ℕ) → n ≡ count_at c → 8 + 8 * n ≤ length c
  cat_long n f = omega (arith, (accepted c t e).long_enough)

  pub cat_few : (n : ℕ) → n ≡ count_at c → n ≤ 2080
  cat_few n f = omega (arith, (accepted c t e).few_records)

  pub cat_view : (n k : ℕ) (ss v : List ℕ) {m : ℕ} → n ≡ count_at c → ss ≡ starts_array c n → fine m ≡ parse.check_of v →
      claims.Accepted c ss v (record { nc = n; tables = t; n = m; k = k })
  cat_view n k ss v f g h =
      record {
        cat_long = cat_long n f;
        cat_few = cat_few n f;
        starts = taken_starts c t (Ok t) (sym e) refl n f ss g;
        taken = sym h;
      }

  pub cat_viewed : (n k : ℕ) (ss v : List ℕ) {m : ℕ} {u : Sums} → n ≡ count_at c → ss ≡ starts_array c n → fine m ≡ parse.check_of v →
      fine u ≡ claims.verdict_of k (claims.resolved_by (tables_from c n n 0) (parse.parse_view v)) → Viewed c ss v (record { nc = n; tables = t; n = m; k = k })
  cat_viewed n k ss v {m} {u} f g h j = record { given = cat_view n k ss v f g h; sums = u; fine = sym j }

-- what the walk has counted
pub sums_are : (c v : List ℕ) (n t m k : ℕ) {u : Sums} → fine u ≡ claims.verdict_of k (claims.resolved_by (tables_from c n n 0) (parse.parse_view v)) →
    u ≡ sums_of k (select_at c v (record { nc = n; tables = t; n = m; k = k }))
unfolding select_at
sums_are c v n t m k {u} e = names_sums k u (claims.resolved_by (tables_from c n n 0) (parse.parse_view v)) e

-- the ways out
module _ (c v : List ℕ) (k q : ℕ) (o : List ℕ) where
  pub tree_view : {i p : ℕ} → refusal i p ≡ parse.check_of v → TreeGiven (tree_of c v k q (length o)) o o (refusal i p)
  tree_view {i} {p} e = tree_refused (tree_of c v k q (length o)) i p o (view_denied c v k q (length o) i p e)

  pub tree_names : (n l : ℕ) {i p : ℕ} → n ≡ count_at c → refusal i p ≡ claims.verdict_of l (claims.resolved_by (tables_from c n n 0) (parse.parse_view v)) →
      TreeGiven (tree_of c v k q (length o)) o o (refusal i p)
  tree_names n l {i} {p} e f = tree_refused (tree_of c v k q (length o)) i p o (names_denied c v k q (length o) n l i p e f)

  pub tree_fine : (f : Files) {o' : List ℕ} {x : Checked ℕ} {u : Sums} → f.nc ≡ count_at c → f.k ≡ k → fine u ≡ claims.verdict_of f.k (claims.resolved_by (tables_from c f.nc f.nc 0) (parse.parse_view v)) →
      TreeGiven (tree_fits (length o) (tree_at c v f q)) o o' x → TreeGiven (tree_of c v k q (length o)) o o' x
  tree_fine f {o'} {x} {u} e p g t = subst (λ (y : Checked SelectTree). TreeGiven y o o' x) (sym (names_taken c v k q (length o) f u e p g)) t

-- ---- TRANSLATE

module _ (c v : List ℕ) (k q : ℕ) (o : List ℕ) where
  pub translate_denied : {i p : ℕ} → refusal i p ≡ fault.check_of c → Translated c v k q o o (refusal i p)
  unfolding translate result_by held_by
  translate_denied e = record { says = rw (← e); holds = rw (← e) }

  pub translate_tree : {t : ℕ} {o' : List ℕ} {x : Checked ℕ} → fine t ≡ fault.check_of c → TreeGiven (tree_of c v k q (length o)) o o' x → Translated c v k q o o' x
  unfolding translate
  translate_tree e g = record { says = rw (← e) g.says; holds = rw (← e) g.holds }

-- ---- ANSWER

-- the count that was read is the catalogue's
pub store_is : (c s : List ℕ) (n t : ℕ) {x : Checked (Unit {0})} → n ≡ count_at c → x ≡ layout.check_of c n t s → layout.check_of c (count_at c) t s ≡ x
store_is c s n t e f = ap (λ (m : ℕ). layout.check_of c m t s) (sym e) ∙ sym f

module _ (c v : List ℕ) (k q : ℕ) (s o p : List ℕ) where
  pub answer_denied : {i j : ℕ} → refusal i j ≡ fault.check_of c → Answered c v k q s o p o p (refusal i j)
  unfolding answer translate_over result_by held_by
  answer_denied e = record { says = rw (← e); tree = rw (← e); holds = rw (← e) }

  pub answer_store : (n t : ℕ) {i j : ℕ} → fine t ≡ fault.check_of c → n ≡ count_at c → refusal i j ≡ layout.check_of c n t s → Answered c v k q s o p o p (refusal i j)
  unfolding answer translate_over result_by held_by
  answer_store n t e g h =
      let b = store_is c s n t g h in
      record { says = rw (← e, b); tree = rw (← e, b); holds = rw (← e, b) }

  pub answer_both : (n t : ℕ) {o' p' : List ℕ} {x : Checked ℕ} → fine t ≡ fault.check_of c → n ≡ count_at c → fine tt ≡ layout.check_of c n t s → BothGiven c v k q s o p o' p' x →
      Answered c v k q s o p o' p' x
  unfolding answer translate_over
  answer_both n t e g h m =
      let b = store_is c s n t g h in
      record { says = rw (← e, b) m.says; tree = rw (← e, b) m.tree; holds = rw (← e, b) m.holds }
