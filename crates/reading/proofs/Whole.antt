-- The promise over lists: of a view that is resolved over a catalogue in rule, with constants of their types, and rows that keep their rules.
-- Assumes nothing.
use Prim.Native.Nat.{ℕ}
use mathlib.Core.Path.{◌≡◌, refl}
use mathlib.Core.Bool.{Bool, true, false, cond}
use mathlib.Core.List.{List, [], ◌∷◌, map}
use Rattle.class.specs.Class.{lub_all}
use Rattle.cell.specs.Res.{Res, done, bind}
use Rattle.cell.specs.Apply.{as_cond}
use Rattle.cell.specs.declared.Type.{«Type» as Ty}
use Rattle.cell.specs.declared.Type.TheVariants as T
use Rattle.catalogue.specs.Tables.{Table, TabRef}
use Rattle.store.specs.Rows.{Row, All, All2}
use Rattle.view.specs.Ast.{Block}
use Rattle.scope.specs.Blocks.{all, tables_named, opened}
use Rattle.resolve.specs.Expr.{Expr, Select}
use Rattle.resolve.specs.Resolve.{good, resolve, select, resolve_view}
use Rattle.tree.specs.Select.{translated}
use Rattle.run.specs.Run.{run}
use Rattle.run.specs.Run as machine
use Rattle.run.specs.Answer.{Shown, cell_for, row_at, run_select}
use Rattle.reading.specs.Reading.{rows, tabs_out, rows_over, kept, eval, reads, answer_by_reading}
use Rattle.reading.specs.Demands.{RowRuns, Promise}
use Rattle.reading.proofs.Lists.{bind_done, all_imp, map_res_ok}
use Rattle.resolve.proofs.Inversion.{view_good}
use Rattle.reading.proofs.Inversion.{Values, values_resolved}
use Rattle.reading.proofs.Names.{tables_ok}
use Rattle.reading.proofs.WellTyped.{TablesRule, ConstsOk, tables_rule}
use Rattle.reading.proofs.Scopes.{RowGood, StoreGood, tables_of, block_ok}
use Rattle.reading.proofs.Select.{Holds, concat_keep, pairs_run, data_is, classes_are, bounds_are, cells_are, test_keeps}

-- every constant of a view is of its type
abbrev pub BlockOk : Block → Type 0
BlockOk b = ConstsOk b.test × All ConstsOk b.values

module _ (cat : List Table) (st : List (List Row)) (accepted : StoreGood cat st) (ruled : TablesRule cat) (b : Block) (consts : BlockOk b)
    (ts : List TabRef) (x : Expr) (ys : List Expr) (tys : List Ty) (named : tables_named cat b.tables ≡ all ts)
    (tested : resolve cat (opened ts ∷ []) b.test ≡ good x T.Boolean) (valued : Values cat (opened ts ∷ []) b.values ys tys) (k q : ℕ) where
  abbrev chosen : Select
  chosen = record { from = ts; test = x; values = ys }

  rule : TablesRule (tables_of ts)
  rule = tables_rule cat b.tables ts ruled named

  -- what holds at each row of the product holds at each of SELECT's
  each : (P : List Row → Type 0) → ((rs : List Row) → All2 RowGood (tables_of ts) rs → P rs) → All P (rows_over st (tabs_out (tables_named cat b.tables)))
  unfolding tabs_out
  each P f = rw named (all_imp (λ rs. All2 RowGood (tables_of ts) rs) P f (rows_over st ts) (block_ok cat st accepted ts (tables_ok cat b.tables ts named)).1)

  row_keeps : (rs : List Row) → All2 RowGood (tables_of ts) rs → Holds st (machine.Frame.rows rs ∷ []) (translated k q chosen).test (kept cat k st q b rs)
  unfolding translated kept tabs_out
  row_keeps rs h = rw named (test_keeps cat k st accepted ruled ts rule rs h q b.test x consts.0 tested)

  row_runs : (rs : List Row) → All2 RowGood (tables_of ts) rs → RowRuns st (translated k q chosen) rs
  unfolding translated
  row_runs rs h =
      let (v, e₁, e₂) = bind_done (run st (translated k q chosen).test (machine.Frame.rows rs ∷ [])) as_cond (kept cat k st q b rs) (row_keeps rs h) in
      record {
        test = v;
        verdict = kept cat k st q b rs;
        test_runs = e₁;
        test_decides = e₂;
        pairs_run = pairs_run cat k st accepted ruled ts rule rs h b.values ys tys consts.1 valued;
      }

  -- the cells of a row
  abbrev cells_of : List Row → List Shown
  cells_of rs = map (λ e. cell_for q (eval cat k st (rows ts rs ∷ []) e) (lub_all (reads cat k st (rows ts rs ∷ []) e))) b.values

  row_shown : (rs : List Row) → All2 RowGood (tables_of ts) rs → row_at st q (translated k q chosen) rs ≡ done (cond (kept cat k st q b rs) (cells_of rs ∷ []) [])
  unfolding row_at bind translated
  row_shown rs h =
      let (v, e₁, e₂) = bind_done (run st (translated k q chosen).test (machine.Frame.rows rs ∷ [])) as_cond (kept cat k st q b rs) (row_keeps rs h) in
      rw (e₁, e₂, cells_are cat k st accepted ruled ts rule rs h q b.values ys tys consts.1 valued) (go (kept cat k st q b rs))
    where
      go : (z : Bool) → ◌≡◌ {A = Res (List (List Shown))} (cond z (done (cells_of rs ∷ [])) (done [])) (done (cond z (cells_of rs ∷ []) []))
      go true = refl
      go false = refl

  whole_answer : run_select st q (translated k q chosen) ≡ done (answer_by_reading cat k st q b)
  unfolding run_select answer_by_reading tabs_out translated bind
  whole_answer =
      let ps : List (List Row) = rows_over st ts in
      let (er, oks) = block_ok cat st accepted ts (tables_ok cat b.tables ts named) in
      rw (
        named,
        er,
        map_res_ok (row_at st q (translated k q chosen)) (λ rs. cond (kept cat k st q b rs) (cells_of rs ∷ []) []) ps
            (all_imp (λ rs. All2 RowGood (tables_of ts) rs) _ row_shown ps oks),
        concat_keep (kept cat k st q b) cells_of ps,
      )

  chosen_promised : Promise cat st b chosen tys k q
  unfolding tabs_out translated
  chosen_promised =
      record {
        runs_to_its_end = record {
          rows_are = rw named (block_ok cat st accepted ts (tables_ok cat b.tables ts named)).0;
          each_row = each (RowRuns st (translated k q chosen)) row_runs;
        };
        of_declared_type = record {
          each_row = each _ (λ rs h. data_is cat k st accepted ruled ts rule rs h b.values ys tys consts.1 valued);
        };
        exactly_what_was_read = record {
          each_row = each _ (λ rs h. rw named (classes_are cat k st accepted ruled ts rule rs h b.values ys tys consts.1 valued));
        };
        bound_dominates = record {
          each_row = each _ (λ rs h. bounds_are cat k st accepted ruled ts rule rs h b.values ys tys consts.1 valued);
        };
        answer_by_reading_lem = whole_answer;
      }

pub promised : (cat : List Table) (st : List (List Row)) → StoreGood cat st → TablesRule cat → (b : Block) → BlockOk b → (sel : Select) (tys : List Ty) →
    resolve_view cat b ≡ select sel tys → (k q : ℕ) → Promise cat st b sel tys k q
promised cat st accepted ruled b consts sel tys e k q =
    let g = view_good cat b sel tys e in
    chosen_promised cat st accepted ruled b consts sel.from sel.test sel.values tys g.there g.test
    (values_resolved cat (opened sel.from ∷ []) b.values sel.values tys g.values) k q
