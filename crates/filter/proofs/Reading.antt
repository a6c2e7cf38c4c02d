-- What Answer's own result says where it is no refusal: the answer buffer begins with the answer of the plain reading, and the tree in its buffer keeps the promises.
-- Assumes nothing.
use Prim.Native.Nat.{ℕ}
use mathlib.Core.Path.{◌≡◌, refl, sym, ap, ◌∙◌}
use mathlib.Core.Bool.{Bool, true, false, cond, ◌&&◌}
use mathlib.Core.List.{List}
use native.Mathlib.Omega.{arith}
use lib.Dec.{leb}
use lib.ListN.{length}
use Rattle.word.specs.Header.{count_at}
use Rattle.word.specs.Refusal.{Checked, fine, refusal, and_then}
use Rattle.cell.specs.Res.{or_else}
use Rattle.cell.specs.declared.Type.{«Type» as Ty}
use Rattle.catalogue.specs.Fault as fault
use Rattle.catalogue.specs.Tables.{catalogue_of}
use Rattle.store.specs.Layout as layout
use Rattle.store.specs.Rows.{store_of}
use Rattle.view.specs.Ast.{Block}
use Rattle.resolve.specs.Expr.{Select}
use Rattle.tree.specs.Tree.{SelectTree, tree_file}
use Rattle.tree.specs.Select.{translated}
use Rattle.run.specs.Answer.{Shown, answer_file}
use Rattle.reading.specs.Reading.{answer_by_reading}
use Rattle.reading.specs.Demands.{Bytes, Accepted, Promise}
use Rattle.reading.proofs.Main.{promise, answer_by_reading_lem}
use Rattle.filter.specs.Jobs.{tree_of, over, result_by, held_by, translate_over, answer_fits, answer_of, answer, Answered}
use Rattle.filter.proofs.Trees.{tree_is}

-- the files are accepted; the tree buffer o begins with the view's tree, the answer buffer p with the answer of the plain reading; the tree keeps what is promised
pub record AnswerReads (c v : List ℕ) (k q : ℕ) (s o p o' p' : List ℕ) (r : Checked ℕ) : Type 0 where
  pub tables : ℕ
  pub block : Block
  pub records : ℕ
  pub sel : Select
  pub tys : List Ty
  pub files : Accepted c v s tables block records sel tys
  pub tree_is : o' ≡ over (tree_file (translated k q sel)) o
  pub answer_is : p' ≡ over (answer_file (answer_by_reading (catalogue_of c) k (store_of c s) q block)) p
  pub count_is : r ≡ fine (length (answer_by_reading (catalogue_of c) k (store_of c s) q block))
  pub promised : Promise (catalogue_of c) (store_of c s) block sel tys k q

-- ---- what an acceptance went through

record Over (c v : List ℕ) (k q : ℕ) (s : List ℕ) (room : ℕ) (t : SelectTree) : Type 0 where
  tables : ℕ
  catalogue_fine : fault.check_of c ≡ fine tables
  store_fine : layout.check_of c (count_at c) tables s ≡ fine tt
  tree : tree_of c v k q room ≡ fine t

module _ (c v : List ℕ) (k q : ℕ) (s : List ℕ) (room : ℕ) where
  over_store : (t : ℕ) (x : Checked (Unit {0})) (u : SelectTree) → fault.check_of c ≡ fine t → layout.check_of c (count_at c) t s ≡ x →
      and_then x (λ _. tree_of c v k q room) ≡ fine u → Over c v k q s room u
  over_store t (fine tt) u e f g = record { tables = t; catalogue_fine = e; store_fine = f; tree = g }
  over_store t (refusal i p) u e f g = absurd (let z : ◌≡◌ {A = ℕ} 0 1 = cc in omega arith)

  over_catalogue : (x : Checked ℕ) (u : SelectTree) → fault.check_of c ≡ x →
      and_then x (λ t. and_then (layout.check_of c (count_at c) t s) (λ _. tree_of c v k q room)) ≡ fine u → Over c v k q s room u
  over_catalogue (fine t) u e g = over_store t (layout.check_of c (count_at c) t s) u e refl g
  over_catalogue (refusal i p) u e g = absurd (let z : ◌≡◌ {A = ℕ} 0 1 = cc in omega arith)

  over_is : (u : SelectTree) → translate_over c v k q s room ≡ fine u → Over c v k q s room u
  unfolding translate_over
  over_is u e = over_catalogue (fault.check_of c) u refl e

  -- an answer went through a tree
  answer_tree : {A : Type 0} (space : ℕ) (rs : List (List Shown)) (x : Checked SelectTree) → translate_over c v k q s room ≡ x → and_then x (λ t. answer_of c s q t space) ≡ fine rs →
      ((u : SelectTree) → translate_over c v k q s room ≡ fine u → answer_of c s q u space ≡ fine rs → A) → A
  answer_tree space rs (fine u) e f g = g u e f
  answer_tree space rs (refusal i p) e f g = absurd (let z : ◌≡◌ {A = ℕ} 0 1 = cc in omega arith)

fits_same : (space : ℕ) (xs rs : List (List Shown)) → answer_fits space xs ≡ fine rs → xs ≡ rs
unfolding answer_fits
fits_same space xs rs e = go (leb (length xs) 65535 && leb (length (answer_file xs)) space) e
  where
    go : (z : Bool) → cond z (fine xs) (refusal 41 0) ≡ fine rs → xs ≡ rs
    go true e = cc
    go false e = absurd (let z : ◌≡◌ {A = ℕ} 0 1 = cc in omega arith)

module _ (c v : List ℕ) (k q : ℕ) (s o p o' p' : List ℕ) (r : Checked ℕ) (view_bytes : Bytes v) (store_bytes : Bytes s) (met : Answered c v k q s o p o' p' r) where
  from_tree : (rs : List (List Shown)) → answer c v k q s (length o) (length p) ≡ fine rs → (u : SelectTree) → translate_over c v k q s (length o) ≡ fine u →
      answer_of c s q u (length p) ≡ fine rs → AnswerReads c v k q s o p o' p' r
  unfolding answer_of result_by held_by or_else
  from_tree rs e u f g =
      let w = over_is c v k q s (length o) u f in
      let t = tree_is c v k q (length o) u w.tree in
      let files : Accepted c v s w.tables t.block t.records t.sel t.tys =
      record {
        catalogue_fine = w.catalogue_fine;
        view_fine = t.read;
        view_resolved = t.resolved;
        store_fine = w.store_fine;
        view_bytes = view_bytes;
        store_bytes = store_bytes;
      } in
      let read = answer_by_reading (catalogue_of c) k (store_of c s) q t.block in
      let same : read ≡ rs = fits_same (length p) read rs (rw (t.is, answer_by_reading_lem files k q) at g) in
      record {
        tables = w.tables;
        block = t.block;
        records = t.records;
        sel = t.sel;
        tys = t.tys;
        files = files;
        tree_is = met.tree ∙ ap (λ (x : Checked SelectTree). held_by tree_file x o) f ∙ ap (λ (x : SelectTree). over (tree_file x) o) t.is;
        answer_is = met.holds ∙ ap (λ (x : Checked (List (List Shown))). held_by answer_file x p) e ∙ ap (λ (x : List (List Shown)). over (answer_file x) p) (sym same);
        count_is = met.says ∙ ap (result_by length) e ∙ ap (λ (x : List (List Shown)). fine (length x)) (sym same);
        promised = promise files k q;
      }

  from_answer : (x : Checked (List (List Shown))) (n : ℕ) → answer c v k q s (length o) (length p) ≡ x → r ≡ fine n → AnswerReads c v k q s o p o' p' r
  unfolding result_by answer
  from_answer (fine rs) n e z = answer_tree c v k q s (length o) (length p) rs (translate_over c v k q s (length o)) refl e (λ u f g. from_tree rs e u f g)
  from_answer (refusal i j) n e z =
      let a : fine n ≡ refusal i j = sym z ∙ met.says ∙ ap (result_by (length {A = List Shown})) e in
      absurd (let y : ◌≡◌ {A = ℕ} 0 1 = cc in omega arith)

  -- ACCEPTED: the answer is what was read, and it keeps the promises
  pub answer_reads : {n : ℕ} → r ≡ fine n → AnswerReads c v k q s o p o' p' r
  answer_reads {n} z = from_answer (answer c v k q s (length o) (length p)) n refl z
