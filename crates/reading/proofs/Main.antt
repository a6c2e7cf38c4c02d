-- The promise of every accepted catalogue, view and store, for every k and q: demand 3, and the answer by the plain reading.
-- Assumes nothing.
use Prim.Native.Nat.{ℕ}
use mathlib.Core.Path.{◌≡◌}
use mathlib.Core.List.{List}
use Rattle.cell.specs.Res.{done}
use Rattle.cell.specs.declared.Type.{«Type» as Ty}
use Rattle.catalogue.specs.Tables.{catalogue_of}
use Rattle.store.specs.Rows.{store_of}
use Rattle.store.proofs.Stores.{store_ok}
use Rattle.view.specs.Ast.{Block}
use Rattle.resolve.specs.Expr.{Select}
use Rattle.tree.specs.Select.{translated}
use Rattle.run.specs.Answer.{run_select}
use Rattle.reading.specs.Reading.{answer_by_reading}
use Rattle.reading.specs.Demands.{Accepted, RunsToItsEnd, OfDeclaredType, ExactlyWhatWasRead, BoundDominates, Promise}
use Rattle.reading.proofs.WellTyped.{catalogue_rule}
use Rattle.reading.proofs.Files.{view_consts, store_good}
use Rattle.reading.proofs.Whole.{promised}

module _ {c v s : List ℕ} {tables : ℕ} {b : Block} {records : ℕ} {sel : Select} {tys : List Ty} (files : Accepted c v s tables b records sel tys) (k q : ℕ) where
  pub promise : Promise (catalogue_of c) (store_of c s) b sel tys k q
  promise =
      promised (catalogue_of c) (store_of c s)
      (store_good c s files.store_bytes (catalogue_of c) (store_ok c s tables files.catalogue_fine files.store_fine))
      (catalogue_rule c tables files.catalogue_fine) b (view_consts v b records files.view_bytes files.view_fine) sel tys files.view_resolved k q

  -- the run isn't stuck
  pub runs_to_its_end : RunsToItsEnd (catalogue_of c) (store_of c s) b (translated k q sel)
  runs_to_its_end = promise.runs_to_its_end

  -- each value is null or of its column's declared type
  pub of_declared_type : OfDeclaredType (catalogue_of c) (store_of c s) b (translated k q sel) tys
  of_declared_type = promise.of_declared_type

  -- each class is the least that dominates every class read
  pub exactly_what_was_read : ExactlyWhatWasRead (catalogue_of c) k (store_of c s) b (translated k q sel)
  exactly_what_was_read = promise.exactly_what_was_read

  -- the declared bound dominates it
  pub bound_dominates : BoundDominates (catalogue_of c) k (store_of c s) b (translated k q sel) sel.values
  bound_dominates = promise.bound_dominates

  -- the run's answer is the plain reading's
  pub answer_by_reading_lem : run_select (store_of c s) q (translated k q sel) ≡ done (answer_by_reading (catalogue_of c) k (store_of c s) q b)
  answer_by_reading_lem = promise.answer_by_reading_lem
