-- One law for each way out of the answer over a tree that was written: 41, or written; and that what Translate wrote runs.
-- Assumes nothing.
use Prim.Native.Nat.{ℕ, ◌<◌}
use mathlib.Core.Path.{◌≡◌, refl, sym, ap, ◌∙◌}
use mathlib.Core.Bool.{Bool, true, false, cond, ◌&&◌}
use mathlib.Core.List.{List, ◌++◌}
use native.Mathlib.Omega.{arith}
use borrow.Author.Tests.{leb-true}
use lib.Dec.{leb}
use lib.ListN.{length, drop}
use Rattle.std.specs.Prelude.{Some, None}
use Rattle.word.specs.Buffer.{put}
use Rattle.word.specs.Header.{count_at}
use Rattle.word.specs.Refusal.{Checked, fine, refusal, and_then}
use Rattle.word.proofs.Writing.{put_start}
use Rattle.cell.specs.Res.{or_else}
use Rattle.catalogue.specs.Fault as fault
use Rattle.catalogue.specs.Tables.{catalogue_of}
use Rattle.store.specs.Layout as layout
use Rattle.store.specs.Rows.{store_of}
use Rattle.view.proofs.Laws.{and_left, and_right}
use Rattle.tree.specs.Tree.{SelectTree, size_select, tree_file}
use Rattle.tree.specs.Select.{translated}
use Rattle.run.specs.Answer.{Shown, answer_file}
use Rattle.reading.specs.Reading.{answer_by_reading}
use Rattle.reading.specs.Demands.{Bytes, Accepted}
use Rattle.reading.proofs.Main.{answer_by_reading_lem}
use Rattle.filter.specs.Jobs.{tree_of, over, result_by, held_by, answer_fits, answer_of}
use Rattle.run.specs.Select as run
use Rattle.filter.specs.Steps.{TreeGiven, BothGiven}
use Rattle.filter.proofs.Trees.{TreeIs, tree_is}
use Rattle.filter.proofs.Standing.{SelectSound, view_sound, select_fits, select_shallow, select_stands}

-- ---- the rows

-- none says that the answer doesn't fit, and the buffer is left; else it is written
rows_over : (p p' : List ℕ) (rs : List (List Shown)) → p' ≡ run.answer_put p rs → None ≡ run.answer_count p rs → (answer_fits (length p) rs ≡ refusal 41 0) × (p' ≡ p)
unfolding run.answer_fits run.answer_put run.answer_count answer_fits
rows_over p p' rs e f = go (leb (length rs) 65535 && leb (length (answer_file rs)) (length p)) e f
  where
    go : (b : Bool) → p' ≡ cond b (put p 0 (answer_file rs)) p → None ≡ cond b (Some (length rs)) None → (cond b (fine rs) (refusal 41 0) ≡ refusal 41 0) × (p' ≡ p)
    go true e f = absurd (let z : ◌≡◌ {A = ℕ} 0 1 = cc in omega arith)
    go false e f = (refl, e)

rows_taken : (p p' : List ℕ) (rs : List (List Shown)) (n : ℕ) → p' ≡ run.answer_put p rs → Some n ≡ run.answer_count p rs →
    (answer_fits (length p) rs ≡ fine rs) × (p' ≡ over (answer_file rs) p) × (n ≡ length rs)
unfolding run.answer_fits run.answer_put run.answer_count answer_fits over
rows_taken p p' rs n e f = go (leb (length rs) 65535 && leb (length (answer_file rs)) (length p)) refl e f
  where
    go : (b : Bool) → (leb (length rs) 65535 && leb (length (answer_file rs)) (length p)) ≡ b → p' ≡ cond b (put p 0 (answer_file rs)) p → Some n ≡ cond b (Some (length rs)) None →
        (cond b (fine rs) (refusal 41 0) ≡ fine rs) × (p' ≡ answer_file rs ++ drop (length (answer_file rs)) p) × (n ≡ length rs)
    go true g e f =
        let a = leb-true (length (answer_file rs)) (length p) (and_right (leb (length rs) 65535) (leb (length (answer_file rs)) (length p)) g) in
        (refl, e ∙ put_start p (answer_file rs) a, cc)
    go false g e f = absurd (let z : ◌≡◌ {A = ℕ} 0 1 = cc in omega arith)

-- ---- a tree that was given

both_fine : (c s : List ℕ) (tables : ℕ) → fault.check_of c ≡ fine tables → layout.check_of c (count_at c) tables s ≡ fine tt → layout.files_of c s ≡ fine tt
unfolding layout.files_of
both_fine c s tables e f = rw e f

-- the facts under which a tree that was given runs
pub record Files (c v s : List ℕ) (tables k q : ℕ) : Type 0 where
  pub catalogue_fine : fault.check_of c ≡ fine tables
  pub store_fine : layout.check_of c (count_at c) tables s ≡ fine tt
  pub cat_bytes : Bytes c
  pub view_bytes : Bytes v
  pub store_bytes : Bytes s
  pub k_small : k < 65536
  pub q_small : q < 65536

module _ (c v s : List ℕ) (tables k q : ℕ) (files : Files c v s tables k q) (o : List ℕ) where
  module _ (t : SelectTree) (g : TreeIs c v k q (length o) t) where
    pub all_accepted : Accepted c v s tables g.block g.records g.sel g.tys
    all_accepted =
        record {
          catalogue_fine = files.catalogue_fine;
          view_fine = g.read;
          view_resolved = g.resolved;
          store_fine = files.store_fine;
          view_bytes = files.view_bytes;
          store_bytes = files.store_bytes;
        }

    sel_sound : SelectSound g.sel
    sel_sound = view_sound c v tables g.records g.block g.sel g.tys files.cat_bytes files.view_bytes files.catalogue_fine g.read g.resolved

    -- IT STANDS AND RUNS
    pub tree_runs : (o' : List ℕ) → o' ≡ over (tree_file t) o → run.Answers o' c s q t (answer_by_reading (catalogue_of c) k (store_of c s) q g.block)
    unfolding over
    tree_runs o' e =
        rw (e, g.is)
        (record {
          stands = select_stands (translated k q g.sel) _ (select_fits k q files.k_small files.q_small g.sel sel_sound (rw (sym g.is) g.short));
          shallow = select_shallow k q files.k_small files.q_small g.sel sel_sound;
          files = both_fine c s tables files.catalogue_fine files.store_fine;
          runs = answer_by_reading_lem all_accepted k q;
        })

  -- the tree was given
  given_fine : {A : Type 0} (o' : List ℕ) (n : ℕ) → TreeGiven (tree_of c v k q (length o)) o o' (fine n) →
      ((t : SelectTree) → tree_of c v k q (length o) ≡ fine t → o' ≡ over (tree_file t) o → A) → A
  unfolding result_by held_by
  given_fine {A} o' n h f = go (tree_of c v k q (length o)) refl
    where
      go : (x : Checked SelectTree) → tree_of c v k q (length o) ≡ x → A
      go (fine t) e = f t e (h.holds ∙ ap (λ (y : Checked SelectTree). held_by tree_file y o) e)
      go (refusal i p) e =
          let a : fine n ≡ refusal i p = h.says ∙ ap (result_by size_select) e in
          absurd (let z : ◌≡◌ {A = ℕ} 0 1 = cc in omega arith)

  module _ (o' : List ℕ) (n : ℕ) (given : TreeGiven (tree_of c v k q (length o)) o o' (fine n)) where
    pub can_answer : run.AnswerReady o' c s q
    can_answer =
        given_fine o' n given λ t e b.
        let g = tree_is c v k q (length o) t e in
        record { tree = t; shown = answer_by_reading (catalogue_of c) k (store_of c s) q g.block; answers = tree_runs t g o' b }

    module _ (p p' : List ℕ) where
      -- 41: the tree stays in its buffer
      pub both_over : run.Answered o' c s q p p' None → BothGiven c v k q s o p o' p' (refusal 41 0)
      unfolding answer_of or_else result_by held_by
      both_over answered =
          given_fine o' n given λ t e b.
          let g = tree_is c v k q (length o) t e in
          let runs = tree_runs t g o' b in
          let rs = answer_by_reading (catalogue_of c) k (store_of c s) q g.block in
          let (u, w) = answered.is t rs runs in
          let (h, l) = rows_over p p' rs u w in
          record { says = rw (e, runs.runs, h); tree = given.holds; holds = rw (e, runs.runs, h) l }

      pub both_taken : (rows : ℕ) → run.Answered o' c s q p p' (Some rows) → BothGiven c v k q s o p o' p' (fine rows)
      unfolding answer_of or_else result_by held_by
      both_taken rows answered =
          given_fine o' n given λ t e b.
          let g = tree_is c v k q (length o) t e in
          let runs = tree_runs t g o' b in
          let rs = answer_by_reading (catalogue_of c) k (store_of c s) q g.block in
          let (u, w) = answered.is t rs runs in
          let (h, l, m) = rows_taken p p' rs rows u w in
          record { says = rw (e, runs.runs, h) (ap fine m); tree = given.holds; holds = rw (e, runs.runs, h) l }

-- a tree has a record at least
pub no_size : (t : SelectTree) → size_select t ≡ 0 → ⊥
unfolding size_select
no_size t e = omega arith

-- no tree was given: the refusal stands, and the answer buffer is left
pub both_refused : (c v : List ℕ) (k q : ℕ) (s o p o' : List ℕ) {i j : ℕ} → TreeGiven (tree_of c v k q (length o)) o o' (refusal i j) → BothGiven c v k q s o p o' p (refusal i j)
unfolding result_by held_by
both_refused c v k q s o p o' {i} {j} h = go (tree_of c v k q (length o)) refl
  where
    go : (x : Checked SelectTree) → tree_of c v k q (length o) ≡ x → BothGiven c v k q s o p o' p (refusal i j)
    go (fine t) e =
        let a : refusal i j ≡ fine (size_select t) = h.says ∙ ap (result_by size_select) e in
        absurd (let z : ◌≡◌ {A = ℕ} 0 1 = cc in omega arith)
    go (refusal a b) e = record { says = rw e (h.says ∙ ap (result_by size_select) e); tree = h.holds; holds = rw e }
