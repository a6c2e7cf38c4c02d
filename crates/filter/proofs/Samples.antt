-- The definitions compute: the two jobs on small files, with refusals 10 and 41, as one table.
-- Assumes nothing.
use Prim.Native.Nat.{ℕ}
use mathlib.Core.Path.{◌≡◌, refl}
use mathlib.Core.List.{List, [], ◌∷◌, map}
use mathlib.Core.Bool.{cond}
use lib.Dec.{eqb}
use lib.ListN.{length}
use Rattle.word.specs.Refusal.{Checked, fine, refusal}
use Rattle.tree.specs.Tree.{size_select, tree_file}
use Rattle.run.specs.Answer.{answer_file}
use Rattle.filter.specs.Jobs.{translate, translate_over, answer, result_by, held_by}

-- a job's inputs: catalogue, view, k, q, store, and the lengths of the lent buffers
record Inputs : Type 0 where
  c : List ℕ
  v : List ℕ
  k : ℕ
  q : ℕ
  s : List ℕ
  tree : ℕ
  space : ℕ

-- number, place, count; and what is written from the start of the tree's and of the answer's buffer
abbrev Given : Type 0
Given = Checked ℕ × List ℕ × List ℕ

given : ℕ → ℕ → ℕ → List ℕ → List ℕ → Given
given n p m t a = (cond (eqb n 0) (fine m) (refusal n p), t, a)

data Job : Type 0 where
  translating : Inputs → Job
  answering : Inputs → Job

done : Job → Given
done (translating i) =
    (result_by size_select (translate i.c i.v i.k i.q i.tree), held_by tree_file (translate i.c i.v i.k i.q i.tree) [], [])
done (answering i) = (
  result_by length (answer i.c i.v i.k i.q i.s i.tree i.space),
  held_by tree_file (translate_over i.c i.v i.k i.q i.s i.tree) [],
  held_by answer_file (answer i.c i.v i.k i.q i.s i.tree i.space) [],
)

table : List (Job × Given)
table =
    -- a tree buffer of seven bytes
    (translating (record { c = 68 ∷ 82 ∷ 67 ∷ 0 ∷ 1 ∷ 0 ∷ 9 ∷ 0 ∷ 1 ∷ 0 ∷ 1 ∷ 0 ∷ 4 ∷ 0 ∷ 0 ∷ 0 ∷ 2 ∷ 1 ∷ 22 ∷ 0 ∷ 0 ∷ 0 ∷ 0 ∷ 1 ∷ 2 ∷ 0 ∷ 25 ∷ 0 ∷ 0 ∷ 0 ∷ 0 ∷ 5 ∷ 2 ∷ 0 ∷ 20 ∷ 0 ∷ 5 ∷ 48 ∷ 17 ∷ 2 ∷ 2 ∷ 1 ∷ 21 ∷ 0 ∷ 107 ∷ 51 ∷ 0 ∷ 1 ∷ 2 ∷ 0 ∷ 24 ∷ 0 ∷ 2 ∷ 0 ∷ 0 ∷ 5 ∷ 2 ∷ 1 ∷ 23 ∷ 0 ∷ 0 ∷ 32 ∷ 0 ∷ 1 ∷ 2 ∷ 1 ∷ 255 ∷ 255 ∷ 3 ∷ 48 ∷ 255 ∷ 3 ∷ 2 ∷ 0 ∷ 3 ∷ 0 ∷ 0 ∷ 0 ∷ 68 ∷ 2 ∷ []; v = 68 ∷ 82 ∷ 81 ∷ 0 ∷ 1 ∷ 0 ∷ 4 ∷ 0 ∷ 13 ∷ 0 ∷ 1 ∷ 0 ∷ 1 ∷ 0 ∷ 0 ∷ 0 ∷ 12 ∷ 0 ∷ 1 ∷ 0 ∷ 0 ∷ 0 ∷ 0 ∷ 0 ∷ 14 ∷ 0 ∷ 23 ∷ 0 ∷ 0 ∷ 0 ∷ 0 ∷ 0 ∷ 15 ∷ 0 ∷ 25 ∷ 0 ∷ 0 ∷ 0 ∷ 0 ∷ 0 ∷ []; k = 13167; q = 13167; s = []; tree = 7; space = 0 }), given 10 0 0 ([]) ([])) ∷
    -- a tree buffer one byte too short
    (translating (record { c = 68 ∷ 82 ∷ 67 ∷ 0 ∷ 1 ∷ 0 ∷ 9 ∷ 0 ∷ 1 ∷ 1 ∷ 44 ∷ 1 ∷ 0 ∷ 0 ∷ 0 ∷ 0 ∷ 2 ∷ 0 ∷ 24 ∷ 0 ∷ 4 ∷ 16 ∷ 0 ∷ 5 ∷ 2 ∷ 0 ∷ 20 ∷ 0 ∷ 2 ∷ 32 ∷ 255 ∷ 4 ∷ 2 ∷ 0 ∷ 255 ∷ 255 ∷ 0 ∷ 0 ∷ 0 ∷ 3 ∷ 2 ∷ 0 ∷ 21 ∷ 0 ∷ 0 ∷ 0 ∷ 0 ∷ 1 ∷ 2 ∷ 0 ∷ 25 ∷ 0 ∷ 0 ∷ 0 ∷ 0 ∷ 1 ∷ 2 ∷ 0 ∷ 22 ∷ 0 ∷ 0 ∷ 0 ∷ 0 ∷ 5 ∷ 2 ∷ 1 ∷ 23 ∷ 0 ∷ 0 ∷ 0 ∷ 0 ∷ 5 ∷ 2 ∷ 0 ∷ 3 ∷ 0 ∷ 0 ∷ 0 ∷ 83 ∷ 2 ∷ []; v = 68 ∷ 82 ∷ 81 ∷ 0 ∷ 1 ∷ 0 ∷ 15 ∷ 0 ∷ 13 ∷ 0 ∷ 1 ∷ 0 ∷ 3 ∷ 0 ∷ 0 ∷ 0 ∷ 12 ∷ 0 ∷ 44 ∷ 1 ∷ 0 ∷ 0 ∷ 0 ∷ 0 ∷ 2 ∷ 1 ∷ 0 ∷ 0 ∷ 0 ∷ 0 ∷ 0 ∷ 0 ∷ 7 ∷ 2 ∷ 0 ∷ 0 ∷ 0 ∷ 0 ∷ 0 ∷ 0 ∷ 7 ∷ 4 ∷ 0 ∷ 0 ∷ 0 ∷ 0 ∷ 0 ∷ 0 ∷ 16 ∷ 0 ∷ 41 ∷ 0 ∷ 0 ∷ 0 ∷ 0 ∷ 0 ∷ 14 ∷ 0 ∷ 20 ∷ 0 ∷ 44 ∷ 1 ∷ 0 ∷ 0 ∷ 14 ∷ 0 ∷ 3 ∷ 0 ∷ 44 ∷ 1 ∷ 0 ∷ 0 ∷ 3 ∷ 65 ∷ 0 ∷ 0 ∷ 177 ∷ 239 ∷ 255 ∷ 255 ∷ 11 ∷ 0 ∷ 1 ∷ 0 ∷ 0 ∷ 0 ∷ 0 ∷ 0 ∷ 12 ∷ 0 ∷ 44 ∷ 1 ∷ 0 ∷ 0 ∷ 0 ∷ 0 ∷ 14 ∷ 0 ∷ 21 ∷ 0 ∷ 0 ∷ 0 ∷ 0 ∷ 0 ∷ 14 ∷ 0 ∷ 3 ∷ 0 ∷ 44 ∷ 1 ∷ 0 ∷ 0 ∷ 15 ∷ 0 ∷ 3 ∷ 0 ∷ 0 ∷ 0 ∷ 0 ∷ 0 ∷ 14 ∷ 0 ∷ 22 ∷ 0 ∷ 44 ∷ 1 ∷ 0 ∷ 0 ∷ []; k = 0; q = 1; s = []; tree = 231; space = 0 }), given 10 0 0 ([]) ([])) ∷
    -- an answer buffer of seven bytes: the tree is written
    (answering (record { c = 68 ∷ 82 ∷ 67 ∷ 0 ∷ 1 ∷ 0 ∷ 2 ∷ 0 ∷ 1 ∷ 0 ∷ 7 ∷ 0 ∷ 0 ∷ 0 ∷ 0 ∷ 0 ∷ 2 ∷ 0 ∷ 20 ∷ 0 ∷ 0 ∷ 0 ∷ 0 ∷ 1 ∷ []; v = 68 ∷ 82 ∷ 81 ∷ 0 ∷ 1 ∷ 0 ∷ 4 ∷ 0 ∷ 13 ∷ 0 ∷ 1 ∷ 0 ∷ 1 ∷ 0 ∷ 0 ∷ 0 ∷ 12 ∷ 0 ∷ 7 ∷ 0 ∷ 0 ∷ 0 ∷ 0 ∷ 0 ∷ 2 ∷ 0 ∷ 0 ∷ 0 ∷ 0 ∷ 0 ∷ 0 ∷ 0 ∷ 2 ∷ 1 ∷ 0 ∷ 0 ∷ 0 ∷ 0 ∷ 0 ∷ 0 ∷ []; k = 0; q = 65535; s = 68 ∷ 82 ∷ 83 ∷ 0 ∷ 1 ∷ 0 ∷ 1 ∷ 0 ∷ 1 ∷ 0 ∷ 0 ∷ 0 ∷ 0 ∷ 0 ∷ 0 ∷ 0 ∷ 1 ∷ 0 ∷ 0 ∷ 0 ∷ []; tree = 65528; space = 7 }), given 41 0 0 (68 ∷ 82 ∷ 84 ∷ 0 ∷ 1 ∷ 0 ∷ 5 ∷ 0 ∷ 13 ∷ 0 ∷ 1 ∷ 0 ∷ 1 ∷ 0 ∷ 0 ∷ 0 ∷ 12 ∷ 0 ∷ 0 ∷ 0 ∷ 0 ∷ 0 ∷ 0 ∷ 0 ∷ 2 ∷ 0 ∷ 0 ∷ 0 ∷ 0 ∷ 0 ∷ 0 ∷ 0 ∷ 2 ∷ 1 ∷ 0 ∷ 0 ∷ 0 ∷ 0 ∷ 0 ∷ 0 ∷ 6 ∷ 0 ∷ 0 ∷ 0 ∷ 0 ∷ 0 ∷ 0 ∷ 0 ∷ []) ([])) ∷
    -- an empty answer in its eight bytes
    (answering (record { c = 68 ∷ 82 ∷ 67 ∷ 0 ∷ 1 ∷ 0 ∷ 2 ∷ 0 ∷ 1 ∷ 0 ∷ 7 ∷ 0 ∷ 0 ∷ 0 ∷ 0 ∷ 0 ∷ 2 ∷ 0 ∷ 20 ∷ 0 ∷ 0 ∷ 0 ∷ 0 ∷ 1 ∷ []; v = 68 ∷ 82 ∷ 81 ∷ 0 ∷ 1 ∷ 0 ∷ 4 ∷ 0 ∷ 13 ∷ 0 ∷ 1 ∷ 0 ∷ 1 ∷ 0 ∷ 0 ∷ 0 ∷ 12 ∷ 0 ∷ 7 ∷ 0 ∷ 0 ∷ 0 ∷ 0 ∷ 0 ∷ 2 ∷ 0 ∷ 0 ∷ 0 ∷ 0 ∷ 0 ∷ 0 ∷ 0 ∷ 2 ∷ 1 ∷ 0 ∷ 0 ∷ 0 ∷ 0 ∷ 0 ∷ 0 ∷ []; k = 0; q = 65535; s = 68 ∷ 82 ∷ 83 ∷ 0 ∷ 1 ∷ 0 ∷ 1 ∷ 0 ∷ 1 ∷ 0 ∷ 0 ∷ 0 ∷ 0 ∷ 0 ∷ 0 ∷ 0 ∷ 1 ∷ 0 ∷ 0 ∷ 0 ∷ []; tree = 65528; space = 8 }), given 0 0 0 (68 ∷ 82 ∷ 84 ∷ 0 ∷ 1 ∷ 0 ∷ 5 ∷ 0 ∷ 13 ∷ 0 ∷ 1 ∷ 0 ∷ 1 ∷ 0 ∷ 0 ∷ 0 ∷ 12 ∷ 0 ∷ 0 ∷ 0 ∷ 0 ∷ 0 ∷ 0 ∷ 0 ∷ 2 ∷ 0 ∷ 0 ∷ 0 ∷ 0 ∷ 0 ∷ 0 ∷ 0 ∷ 2 ∷ 1 ∷ 0 ∷ 0 ∷ 0 ∷ 0 ∷ 0 ∷ 0 ∷ 6 ∷ 0 ∷ 0 ∷ 0 ∷ 0 ∷ 0 ∷ 0 ∷ 0 ∷ []) (68 ∷ 82 ∷ 65 ∷ 0 ∷ 1 ∷ 0 ∷ 0 ∷ 0 ∷ [])) ∷
    -- an answer of one row
    (answering (record { c = 68 ∷ 82 ∷ 67 ∷ 0 ∷ 1 ∷ 0 ∷ 3 ∷ 0 ∷ 1 ∷ 1 ∷ 7 ∷ 0 ∷ 0 ∷ 16 ∷ 0 ∷ 0 ∷ 2 ∷ 0 ∷ 20 ∷ 0 ∷ 1 ∷ 0 ∷ 66 ∷ 2 ∷ 2 ∷ 1 ∷ 21 ∷ 0 ∷ 1 ∷ 32 ∷ 66 ∷ 2 ∷ []; v = 68 ∷ 82 ∷ 81 ∷ 0 ∷ 1 ∷ 0 ∷ 4 ∷ 0 ∷ 13 ∷ 0 ∷ 1 ∷ 0 ∷ 1 ∷ 0 ∷ 0 ∷ 0 ∷ 12 ∷ 0 ∷ 7 ∷ 0 ∷ 0 ∷ 0 ∷ 0 ∷ 0 ∷ 2 ∷ 1 ∷ 0 ∷ 0 ∷ 0 ∷ 0 ∷ 0 ∷ 0 ∷ 14 ∷ 0 ∷ 20 ∷ 0 ∷ 0 ∷ 0 ∷ 0 ∷ 0 ∷ []; k = 0; q = 65535; s = 68 ∷ 82 ∷ 83 ∷ 0 ∷ 1 ∷ 0 ∷ 1 ∷ 0 ∷ 1 ∷ 0 ∷ 0 ∷ 16 ∷ 0 ∷ 0 ∷ 1 ∷ 0 ∷ 5 ∷ 0 ∷ 0 ∷ 0 ∷ 0 ∷ 0 ∷ 0 ∷ 0 ∷ 0 ∷ 0 ∷ 0 ∷ 0 ∷ []; tree = 65528; space = 65528 }), given 0 0 1 (68 ∷ 82 ∷ 84 ∷ 0 ∷ 1 ∷ 0 ∷ 5 ∷ 0 ∷ 13 ∷ 0 ∷ 1 ∷ 0 ∷ 1 ∷ 0 ∷ 0 ∷ 0 ∷ 12 ∷ 0 ∷ 0 ∷ 0 ∷ 0 ∷ 0 ∷ 0 ∷ 0 ∷ 2 ∷ 1 ∷ 0 ∷ 0 ∷ 0 ∷ 0 ∷ 0 ∷ 0 ∷ 17 ∷ 0 ∷ 0 ∷ 0 ∷ 0 ∷ 0 ∷ 0 ∷ 0 ∷ 6 ∷ 0 ∷ 1 ∷ 0 ∷ 0 ∷ 0 ∷ 0 ∷ 0 ∷ []) (68 ∷ 82 ∷ 65 ∷ 0 ∷ 1 ∷ 0 ∷ 1 ∷ 0 ∷ 0 ∷ 0 ∷ 1 ∷ 0 ∷ 5 ∷ 0 ∷ 0 ∷ 0 ∷ [])) ∷
    []

worked_cases : map (λ r. done r.0) table ≡ map (λ r. r.1) table
unfolding done given table Rattle.catalogue.specs.Fault.tables_before Rattle.catalogue.specs.Fault.columns_before Rattle.catalogue.specs.Fault.table_used Rattle.catalogue.specs.Fault.column_used Rattle.catalogue.specs.Fault.has_column Rattle.catalogue.specs.Fault.table_fault Rattle.catalogue.specs.Fault.column_fault Rattle.catalogue.specs.Fault.fault_by Rattle.catalogue.specs.Fault.lowest Rattle.catalogue.specs.Fault.check_of Rattle.catalogue.specs.Tables.column_at Rattle.catalogue.specs.Tables.cols_from Rattle.catalogue.specs.Tables.table_at Rattle.catalogue.specs.Tables.tables_from Rattle.catalogue.specs.Tables.catalogue_of Rattle.catalogue.specs.Tables.later Rattle.catalogue.specs.Tables.table_named Rattle.cell.specs.Apply.of3 Rattle.cell.specs.Apply.as3 Rattle.cell.specs.Apply.as_cond Rattle.cell.specs.Apply.cut_fixed Rattle.cell.specs.Apply.cut_time Rattle.cell.specs.Apply.cut_interval Rattle.cell.specs.Apply.product_fixed Rattle.cell.specs.Apply.product_interval Rattle.cell.specs.Apply.sum_n Rattle.cell.specs.Apply.product_n Rattle.cell.specs.Apply.order_n Rattle.cell.specs.Apply.equal_n Rattle.cell.specs.Apply.or_null Rattle.cell.specs.Apply.equal_v Rattle.cell.specs.Apply.settled Rattle.cell.specs.Apply.logic_v Rattle.cell.specs.Apply.apply Rattle.cell.specs.Apply.negate Rattle.cell.specs.Apply.convert Rattle.cell.specs.Res.bind Rattle.cell.specs.Res.or_else Rattle.cell.specs.Res.nth Rattle.cell.specs.Res.map_res Rattle.cell.specs.Types.digits_rule Rattle.cell.specs.Types.type_rule Rattle.cell.specs.Types.type_by Rattle.cell.specs.Types.in_rule Rattle.cell.specs.Types.word_of Rattle.cell.specs.Types.kind_of Rattle.cell.specs.Types.digits_of Rattle.cell.specs.Types.scale_of Rattle.cell.specs.Types.format_of Rattle.cell.specs.Types.wider_of Rattle.cell.specs.Types.sum_type Rattle.cell.specs.Types.product_type Rattle.cell.specs.Types.logic_type Rattle.cell.specs.Types.order_type Rattle.cell.specs.Types.equal_type Rattle.cell.specs.Types.binop_type Rattle.cell.specs.Types.same_type Rattle.cell.specs.Types.limb_type Rattle.cell.specs.Values.is_null Rattle.cell.specs.Values.as_truth Rattle.cell.specs.Values.as_fixed Rattle.cell.specs.Values.as_time Rattle.cell.specs.Values.as_interval Rattle.cell.specs.Values.as_class Rattle.cell.specs.Values.kind_v Rattle.cell.specs.Values.number_in Rattle.class.specs.Class.level Rattle.class.specs.Class.mark Rattle.class.specs.Class.dominatesb Rattle.class.specs.Class.lub_of Rattle.class.specs.Info.info_by Rattle.class.specs.Info.bound_of Rattle.class.specs.Info.info_test Rattle.class.specs.Info.join_i Rattle.class.specs.Info.joins_i Rattle.class.specs.Info.same_i Rattle.class.specs.Info.choice_i Rattle.filter.specs.Jobs.resolved_by Rattle.filter.specs.Jobs.view_by Rattle.filter.specs.Jobs.tree_fits Rattle.filter.specs.Jobs.tree_of Rattle.filter.specs.Jobs.answer_fits Rattle.filter.specs.Jobs.answer_of Rattle.filter.specs.Jobs.over Rattle.filter.specs.Jobs.result_by Rattle.filter.specs.Jobs.held_by Rattle.filter.specs.Jobs.translate Rattle.filter.specs.Jobs.translate_over Rattle.filter.specs.Jobs.answer Rattle.resolve.specs.Resolve.then Rattle.resolve.specs.Resolve.col_out Rattle.resolve.specs.Resolve.class_out Rattle.resolve.specs.Resolve.on_tabs Rattle.resolve.specs.Resolve.ruled Rattle.resolve.specs.Resolve.need_bool Rattle.resolve.specs.Resolve.brought Rattle.resolve.specs.Resolve.resolve Rattle.resolve.specs.Resolve.also_out Rattle.resolve.specs.Resolve.resolve_all Rattle.resolve.specs.Resolve.with_values Rattle.resolve.specs.Resolve.with_test Rattle.resolve.specs.Resolve.with_tabs Rattle.resolve.specs.Resolve.resolve_view Rattle.run.specs.Answer.cell_for Rattle.run.specs.Answer.pair_at Rattle.run.specs.Answer.row_at Rattle.run.specs.Answer.concat Rattle.run.specs.Answer.run_select Rattle.run.specs.Answer.cell_bytes Rattle.run.specs.Answer.row_bytes Rattle.run.specs.Answer.rows_bytes Rattle.run.specs.Answer.answer_file Rattle.run.specs.Run.as_rows Rattle.run.specs.Run.as_local Rattle.run.specs.Run.row_in Rattle.run.specs.Run.cell_in Rattle.run.specs.Run.local_in Rattle.run.specs.Run.class_bound Rattle.run.specs.Run.concat_map Rattle.run.specs.Run.product Rattle.run.specs.Run.rows_for Rattle.run.specs.Run.exists_step Rattle.run.specs.Run.value_step Rattle.run.specs.Run.kept_value Rattle.run.specs.Run.agg_step Rattle.run.specs.Run.run Rattle.scope.specs.Blocks.before Rattle.scope.specs.Blocks.found_at Rattle.scope.specs.Blocks.tables_named Rattle.scope.specs.Blocks.refs_of Rattle.scope.specs.Scopes.only_of Rattle.scope.specs.Scopes.in_cols Rattle.scope.specs.Scopes.in_table Rattle.scope.specs.Scopes.in_tabs Rattle.scope.specs.Scopes.in_scope Rattle.scope.specs.Scopes.nearest Rattle.scope.specs.Scopes.find Rattle.store.specs.Layout.class_rule Rattle.store.specs.Layout.magnitude Rattle.store.specs.Layout.value_rule Rattle.store.specs.Layout.cell_rule Rattle.store.specs.Layout.cell_place Rattle.store.specs.Layout.columns_from Rattle.store.specs.Layout.row_size Rattle.store.specs.Layout.place_after Rattle.store.specs.Layout.place_of Rattle.store.specs.Layout.end_from Rattle.store.specs.Layout.first Rattle.store.specs.Layout.cells_fault Rattle.store.specs.Layout.row_fault Rattle.store.specs.Layout.rows_fault Rattle.store.specs.Layout.table_fault Rattle.store.specs.Layout.fault_from Rattle.store.specs.Layout.verdict_by Rattle.store.specs.Layout.check_of Rattle.store.specs.Layout.files_of Rattle.store.specs.Rows.value_of Rattle.store.specs.Rows.cell_at Rattle.store.specs.Rows.cells_from Rattle.store.specs.Rows.row_at Rattle.store.specs.Rows.rows_from Rattle.store.specs.Rows.table_rows Rattle.store.specs.Rows.tables_rows Rattle.store.specs.Rows.store_of Rattle.tree.specs.Select.test Rattle.tree.specs.Select.table_tests Rattle.tree.specs.Select.conj Rattle.tree.specs.Select.translated Rattle.tree.specs.Trans.expr_data Rattle.tree.specs.Trans.as_tree Rattle.tree.specs.Trans.bound Rattle.tree.specs.Trans.info_of Rattle.tree.specs.Trans.by_info Rattle.tree.specs.Trans.join Rattle.tree.specs.Trans.joins Rattle.tree.specs.Trans.join_all Rattle.tree.specs.Trans.same_fixed Rattle.tree.specs.Trans.choice Rattle.tree.specs.Trans.let_class Rattle.tree.specs.Trans.row_classes Rattle.tree.specs.Trans.block_class Rattle.tree.specs.Trans.expr_class Rattle.tree.specs.Tree.size Rattle.tree.specs.Tree.size_pairs Rattle.tree.specs.Tree.size_select Rattle.tree.specs.Tree.table_recs Rattle.tree.specs.Tree.encode Rattle.tree.specs.Tree.encode_pairs Rattle.tree.specs.Tree.encode_select Rattle.tree.specs.Tree.tree_file Rattle.view.specs.Ast.first_of Rattle.view.specs.Ast.and_then Rattle.view.specs.Ast.next_of Rattle.view.specs.Parse.enter_node Rattle.view.specs.Parse.enter Rattle.view.specs.Parse.many Rattle.view.specs.Parse.name_of Rattle.view.specs.Parse.names_at Rattle.view.specs.Parse.parse_table Rattle.view.specs.Parse.parse_block Rattle.view.specs.Parse.parse_node Rattle.view.specs.Parse.parse_value Rattle.view.specs.Parse.root_node Rattle.view.specs.Parse.parse_root Rattle.view.specs.Parse.parse_view Rattle.view.specs.Parse.place_of Rattle.view.specs.Parse.check_of Rattle.view.specs.Record.const_of Rattle.view.specs.Record.node_of Rattle.view.specs.Record.node_at Rattle.view.specs.Record.slot_of Rattle.view.specs.Record.const_rec Rattle.word.specs.Buffer.put Rattle.word.specs.Bytes.signed32 Rattle.word.specs.Bytes.bits32 Rattle.word.specs.Bytes.i32_at Rattle.word.specs.Bytes.le16 Rattle.word.specs.Bytes.le32 Rattle.word.specs.Header.headed Rattle.word.specs.Header.header Rattle.word.specs.Record.rec_at Rattle.word.specs.Record.rec_bytes Rattle.resolve.specs.Totals.fold_type Rattle.resolve.specs.Totals.ordered_type Rattle.resolve.specs.Totals.pick_type Rattle.tree.specs.Tree.fold_kind Rattle.tree.specs.Tree.fold_op Rattle.tree.specs.Tree.pick_kind Rattle.run.specs.Run.fold_over Rattle.run.specs.Run.pick_over
worked_cases = refl
