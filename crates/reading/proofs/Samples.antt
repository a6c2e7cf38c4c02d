-- The definitions compute, from bytes: the worked view's tree, small views of each kind with their answers, and each refusal from 6 to 9.
-- Assumes nothing.
use Prim.Native.Nat.{ℕ}
use mathlib.Core.Path.{◌≡◌, refl}
use mathlib.Core.Bool.{true, false}
use mathlib.Core.List.{List, [], ◌∷◌, ◌++◌, map}
use lib.IntN.{pos, negsuc}
use lib.ListN.{length}
use Rattle.word.specs.Bytes.{le16, le32, signed32, bits32, i32_at}
use Rattle.word.specs.Header.{drq, drc, drt, drs, header, headed}
use Rattle.word.specs.Record.{rec_bytes, rec_at}
use Rattle.class.specs.Class.{level, mark, dominatesb, lub_of}
use Rattle.class.specs.Info.{info_by}
use Rattle.cell.specs.Res.{Res, stuck, done, bind, or_else, nth, map_res}
use Rattle.cell.specs.Types.{digits_rule, type_by, kind_of, digits_of, scale_of, format_of, wider_of, sum_type, product_type, logic_type, order_type, equal_type, binop_type, same_type, limb_type}
use Rattle.cell.specs.Values.{is_null, as_truth, as_fixed, as_time, as_interval, as_class, kind_v, number_in}
use Rattle.cell.specs.Apply.{as3, of3, as_cond, cut_fixed, cut_time, cut_interval, product_fixed, product_interval, sum_n, product_n, order_n, equal_n, equal_v, or_null, settled, logic_v, apply, negate, convert}
use Rattle.cell.specs.declared.Value.{Value}
use Rattle.cell.specs.declared.Value.TheVariants.{Null, Truth, Fixed, Time, Interval, Class}
use Rattle.catalogue.specs.Tables.{column_at, cols_from, table_at, tables_from, catalogue_of, later, table_named}
use Rattle.store.specs.Layout.{cell_place, columns_from, row_size, place_after}
use Rattle.store.specs.Rows.{value_of, cell_at, cells_from, row_at, rows_from, table_rows, tables_rows, store_of}
use Rattle.view.specs.Record.{const_of, node_of, node_at, slot_of, const_rec}
use Rattle.view.specs.Ast.{Block, Parsed, ok, refused, and_then, first_of}
use Rattle.view.specs.Parse.{enter_node, enter, many, name_of, parse_table, parse_block, parse_node, parse_value, root_node, parse_root, parse_view}
use Rattle.scope.specs.Scopes.{only_of, in_cols, in_table, in_tabs, in_scope, nearest, find}
use Rattle.scope.specs.Blocks.{before, found_at, tables_named}
use Rattle.resolve.specs.Totals.{fold_type, ordered_type, pick_type}
use Rattle.resolve.specs.Resolve.{then, col_out, class_out, on_tabs, ruled, need_bool, brought, resolve, also_out, resolve_all, Resolved, select, with_values, with_test, with_tabs, resolve_view}
use Rattle.resolve.specs.Resolve as resolving
use Rattle.tree.specs.Tree.{size, size_pairs, size_select, table_recs, fold_kind, fold_op, pick_kind, encode, encode_pairs, encode_select, tree_file}
use Rattle.tree.specs.Trans.{expr_data, expr_class, as_tree, bound, info_of, by_info, join, joins, join_all, same_fixed, choice, let_class, row_classes, block_class}
use Rattle.tree.specs.Select.{test, table_tests, conj, translated}
use Rattle.run.specs.Run.{concat_map, product, rows_for, exists_step, value_step, kept_value, count_step, ordered, better, best_step, fold_over, pick_over, agg_step, run}
use Rattle.run.specs.Run as machine
use Rattle.run.specs.Answer.{Shown, shown, withheld, cell_for, pair_at, concat, run_select}
use Rattle.run.specs.Answer as answer
use Rattle.reading.specs.Reading.{scope_of, as_rows, as_known, row_in, cell_in, known_in, type_out, tabs_out, rows_over, is_true, any_true, keep, only_value, count_true, fold_value, better_of, best_of, pick_value, to_type, col_value, class_value, col_reads, class_reads, eval, sees, kept, answer_by_reading}

-- ---- files

-- records, each as kind op a b c
pub record Line : Type 0 where
  pub kind : ℕ
  pub op : ℕ
  pub a : ℕ
  pub b : ℕ
  pub c : ℕ

abbrev pub r : ℕ → ℕ → ℕ → ℕ → ℕ → Line
r k o x y z = record { kind = k; op = o; a = x; b = y; c = z }

unfoldable pub bytes_of : List Line → List ℕ
bytes_of [] = []
bytes_of (x ∷ xs) = rec_bytes x.kind x.op x.a x.b x.c ++ bytes_of xs

abbrev pub catalogue_file : List Line → List ℕ
catalogue_file xs = header drc (length xs) ++ bytes_of xs

abbrev pub view_file : List Line → List ℕ
view_file xs = header drq (length xs) ++ bytes_of xs

-- what translating gives: the tree's file, or the refusal
pub data Translation : Type 0 where
  tree : List ℕ → Translation
  refusal : ℕ → ℕ → Translation

unfoldable pub tree_by : ℕ → ℕ → Resolved → Translation
tree_by k q (select s tys) = tree (tree_file (translated k q s))
tree_by k q (resolving.refused number place) = refusal number place

unfoldable pub tree_from : List ℕ → ℕ → ℕ → Parsed Block → Translation
tree_from c k q (ok b next) = tree_by k q (resolve_view (catalogue_of c) b)
tree_from c k q (refused number place) = refusal number place

abbrev pub tree_of : List ℕ → List ℕ → ℕ → ℕ → Translation
tree_of c v k q = tree_from c k q (parse_view v)

-- ---- answers

-- what answering gives: rows, or a refusal, or a run that is stuck
pub data Outcome : Type 0 where
  gives : List (List Shown) → Outcome
  refuses : ℕ → ℕ → Outcome
  sticks : Outcome

unfoldable pub of_run : Res (List (List Shown)) → Outcome
of_run stuck = sticks
of_run (done rs) = gives rs

unfoldable pub answer_by : List ℕ → List ℕ → ℕ → ℕ → Resolved → Outcome
answer_by c s k q (select x tys) = of_run (run_select (store_of c s) q (translated k q x))
answer_by c s k q (resolving.refused number place) = refuses number place

-- by the run of the tree, and by the plain reading
unfoldable pub answers_from : List ℕ → List ℕ → ℕ → ℕ → Parsed Block → Outcome × Outcome
answers_from c s k q (ok b next) = (answer_by c s k q (resolve_view (catalogue_of c) b), gives (answer_by_reading (catalogue_of c) k (store_of c s) q b))
answers_from c s k q (refused number place) = (refuses number place, refuses number place)

-- table 7: two rows; 20 fixed (4,2), 21 boolean with a stored class. Table 8 of class 4097: one row of class 4096; 30 time, 31 interval, 32 class,
-- 33 fixed (3,1) with a stored class. Table 9 of class 0: no row
abbrev pub sample_catalogue : List ℕ
sample_catalogue =
    catalogue_file
    (r 1 1 7 4096 0 ∷
    r 2 0 20 0 578 ∷
    r 2 1 21 8193 256 ∷
    r 1 0 8 4096 4097 ∷
    r 2 0 30 2 769 ∷
    r 2 0 31 4 1026 ∷
    r 2 0 32 8 1280 ∷
    r 2 1 33 8208 561 ∷
    r 1 0 9 0 0 ∷
    r 2 0 40 0 256 ∷
    [])

abbrev pub cell : ℕ → ℕ → ℕ → List ℕ
cell mark class value = mark ∷ 0 ∷ (le16 class ++ le32 value)

abbrev pub sample_store : List ℕ
sample_store =
    header drs 3 ++
    le16 2 ++
    (le16 4096 ++ cell 0 0 1234 ++ cell 0 1 1) ++
    (le16 0 ++ cell 0 0 5678 ++ cell 1 8193 0) ++
    le16 1 ++
    (le16 4096 ++ cell 0 2 1000 ++ cell 0 4 4294967286 ++ cell 0 8 4097 ++ cell 0 8192 15) ++
    le16 0

-- a view of table 8 without a test: its value's records, k, q
pub record Question : Type 0 where
  pub value : List Line
  pub k : ℕ
  pub q : ℕ

abbrev pub ask : List Line → Question
ask xs = record { value = xs; k = 1; q = 65535 }

abbrev pub from_eight : List Line → List ℕ
from_eight xs = view_file (r 13 0 1 1 0 ∷ r 12 0 8 0 0 ∷ r 2 1 0 0 0 ∷ xs)

abbrev pub answers : Question → Outcome × Outcome
answers x = answers_from sample_catalogue sample_store x.k x.q (parse_view (from_eight x.value))

-- one row with one value of a class
abbrev pub is : Value → ℕ → Outcome × Outcome
is v c = (gives ((shown v c ∷ []) ∷ []), gives ((shown v c ∷ []) ∷ []))

-- ---- the cases

pub record Samples : Type 0 where
  -- the worked view: its tree's file
  pub worked_view :
      tree_of
      (catalogue_file (r 1 1 7 4096 0 ∷ r 2 0 20 0 578 ∷ r 2 1 21 8193 256 ∷ []))
      (view_file (r 13 0 1 2 0 ∷ r 12 0 7 0 0 ∷ r 14 0 21 0 0 ∷ r 14 0 20 0 0 ∷ r 15 0 21 0 0 ∷ []))
      0 4096 ≡
      tree
      (header drt 11 ++
      bytes_of
      (r 13 0 1 2 0 ∷
      r 12 0 0 0 0 ∷
      r 7 5 0 0 0 ∷
      r 26 0 0 0 0 ∷
      r 6 0 4096 0 0 ∷
      r 18 0 0 0 1 ∷
      r 17 0 0 0 1 ∷
      r 17 0 0 0 0 ∷
      r 6 0 0 0 0 ∷
      r 18 0 0 0 1 ∷
      r 19 0 0 0 0 ∷
      []))
  -- small views of each kind: the answer of the run and that of the plain reading
  pub each_kind :
      map answers
      ( -- NULL, BOOL, FIXED, TIME, INTERVAL, CLASS
      ask (r 1 0 0 0 0 ∷ []) ∷
      ask (r 2 1 0 0 0 ∷ []) ∷
      ask (r 3 66 0 1234 0 ∷ []) ∷
      ask (r 4 1 0 65535 65535 ∷ []) ∷
      ask (r 5 2 0 10 0 ∷ []) ∷
      ask (r 6 0 4097 0 0 ∷ []) ∷
      -- BINOP: 1.5 × 1.5 at (2,1); time plus interval; interval -10 × 0.25; a class = a constant
      ask (r 7 3 0 0 0 ∷ r 3 33 0 15 0 ∷ r 3 33 0 15 0 ∷ []) ∷
      ask (r 7 1 0 0 0 ∷ r 14 0 30 0 0 ∷ r 14 0 31 0 0 ∷ []) ∷
      ask (r 7 3 0 0 0 ∷ r 14 0 31 0 0 ∷ r 3 50 0 25 0 ∷ []) ∷
      ask (r 7 9 0 0 0 ∷ r 14 0 32 0 0 ∷ r 6 0 4097 0 0 ∷ []) ∷
      -- NOT
      ask (r 8 0 0 0 0 ∷ r 2 1 0 0 0 ∷ []) ∷
      -- IF: a limb of another (p, s) is brought to one type; the limb that isn't taken isn't read
      ask (r 9 0 0 0 0 ∷ r 2 1 0 0 0 ∷ r 3 16 0 5 0 ∷ r 14 0 33 0 0 ∷ []) ∷
      ask (r 9 0 0 0 0 ∷ r 2 0 0 0 0 ∷ r 3 16 0 5 0 ∷ r 14 0 33 0 0 ∷ []) ∷
      -- EXISTS: over table 7 by its column; over no row of table 9, where the constant isn't read
      ask (r 10 0 1 0 0 ∷ r 12 0 7 0 0 ∷ r 14 0 21 0 0 ∷ []) ∷
      ask (r 10 0 1 0 0 ∷ r 12 0 9 0 0 ∷ r 2 1 0 0 0 ∷ []) ∷
      -- VALUE: one row kept; two rows kept; a column of the block outside
      ask (r 11 0 1 0 0 ∷ r 12 0 7 0 0 ∷ r 14 0 21 0 0 ∷ r 14 0 20 0 0 ∷ []) ∷
      ask (r 11 0 1 0 0 ∷ r 12 0 7 0 0 ∷ r 2 1 0 0 0 ∷ r 14 0 20 0 0 ∷ []) ∷
      ask (r 11 0 1 0 0 ∷ r 12 0 7 0 0 ∷ r 7 12 0 0 0 ∷ r 14 0 20 0 0 ∷ r 3 65 0 200 0 ∷ r 14 0 33 0 0 ∷ []) ∷
      -- COUNT: of the kept rows, with the class of all; of both rows; of no row; of 16 rows at one digit
      ask (r 28 16 1 0 0 ∷ r 12 0 7 0 0 ∷ r 14 0 21 0 0 ∷ []) ∷
      ask (r 28 16 1 0 0 ∷ r 12 0 7 0 0 ∷ r 2 1 0 0 0 ∷ []) ∷
      ask (r 28 16 1 0 0 ∷ r 12 0 9 0 0 ∷ r 2 1 0 0 0 ∷ []) ∷
      ask (r 28 16 4 0 0 ∷ r 12 0 7 0 0 ∷ r 12 0 7 0 0 ∷ r 12 0 7 0 0 ∷ r 12 0 7 0 0 ∷ r 2 1 0 0 0 ∷ []) ∷
      -- MAX and MIN: of both rows; of no kept row; of a row's value and a null; of a time; of an interval
      ask (r 29 0 1 0 0 ∷ r 12 0 7 0 0 ∷ r 2 1 0 0 0 ∷ r 14 0 20 0 0 ∷ []) ∷
      ask (r 30 0 1 0 0 ∷ r 12 0 7 0 0 ∷ r 2 1 0 0 0 ∷ r 14 0 20 0 0 ∷ []) ∷
      ask (r 29 0 1 0 0 ∷ r 12 0 7 0 0 ∷ r 2 0 0 0 0 ∷ r 14 0 20 0 0 ∷ []) ∷
      ask (r 30 0 1 0 0 ∷ r 12 0 7 0 0 ∷ r 2 1 0 0 0 ∷ r 7 3 0 0 0 ∷ r 14 0 20 0 0 ∷ r 3 66 0 500 0 ∷ []) ∷
      ask (r 29 0 1 0 0 ∷ r 12 0 8 0 0 ∷ r 2 1 0 0 0 ∷ r 14 0 30 0 0 ∷ []) ∷
      ask (r 30 0 1 0 0 ∷ r 12 0 8 0 0 ∷ r 2 1 0 0 0 ∷ r 14 0 31 0 0 ∷ []) ∷
      -- COL with its table's name, CLASSOF
      ask (r 14 0 33 8 0 ∷ []) ∷
      ask (r 15 0 33 0 0 ∷ []) ∷
      -- LET: a local used twice; a body that doesn't read it
      ask (r 16 0 50 0 0 ∷ r 14 0 33 0 0 ∷ r 7 1 0 0 0 ∷ r 14 0 50 0 0 ∷ r 14 0 50 0 0 ∷ []) ∷
      ask (r 16 0 50 0 0 ∷ r 14 0 33 0 0 ∷ r 14 0 30 0 0 ∷ []) ∷
      -- a cell that q doesn't dominate is withheld; a row whose table's class q doesn't dominate isn't shown
      record { value = r 14 0 33 0 0 ∷ []; k = 0; q = 4097 } ∷
      record { value = r 14 0 33 0 0 ∷ []; k = 0; q = 8192 } ∷
      []) ≡
      is Null 1 ∷
      is (Truth true) 1 ∷
      is (Fixed 2 (pos 1234)) 1 ∷
      is (Time (negsuc 0)) 1 ∷
      is (Interval (pos 10)) 1 ∷
      is (Class 4097) 1 ∷
      is (Fixed 1 (pos 22)) 1 ∷
      is (Time (pos 990)) 6 ∷
      is (Interval (negsuc 1)) 5 ∷
      is (Truth true) 9 ∷
      is (Truth false) 1 ∷
      is (Fixed 1 (pos 50)) 1 ∷
      is (Fixed 1 (pos 15)) 8193 ∷
      is (Truth true) 8193 ∷
      is (Truth false) 0 ∷
      is (Fixed 2 (pos 1234)) 8193 ∷
      is Null 4097 ∷
      is (Fixed 1 (pos 15)) 8193 ∷
      is (Fixed 0 (pos 1)) 8193 ∷
      is (Fixed 0 (pos 2)) 4097 ∷
      is (Fixed 0 (pos 0)) 0 ∷
      is Null 4097 ∷
      is (Fixed 2 (pos 5678)) 4097 ∷
      is (Fixed 2 (pos 1234)) 4097 ∷
      is Null 4097 ∷
      is (Fixed 2 (pos 6170)) 4097 ∷
      is (Time (pos 1000)) 4099 ∷
      is (Interval (negsuc 9)) 4101 ∷
      is (Fixed 1 (pos 15)) 8192 ∷
      is (Class 8192) 4096 ∷
      is (Fixed 1 (pos 30)) 8192 ∷
      is (Time (pos 1000)) 2 ∷
      (gives ((withheld ∷ []) ∷ []), gives ((withheld ∷ []) ∷ [])) ∷
      (gives [], gives []) ∷
      []
  -- EXISTS over an empty table of class 0 is false, of class 0, whatever k is
  pub exists_over_nothing : answers (record { value = r 10 0 1 0 0 ∷ r 12 0 9 0 0 ∷ r 2 1 0 0 0 ∷ []; k = 8191; q = 65535 }) ≡ is (Truth false) 0
  -- each refusal from 6 to 9: the number and the place
  pub each_refusal :
      map (λ xs. tree_of sample_catalogue (view_file xs) 0 0)
      ( -- 6: no such table, of SELECT and of a block
      (r 13 0 1 1 0 ∷ r 12 0 99 0 0 ∷ r 2 1 0 0 0 ∷ r 1 0 0 0 0 ∷ []) ∷
      (r 13 0 1 1 0 ∷ r 12 0 8 0 0 ∷ r 2 1 0 0 0 ∷ r 10 0 2 0 0 ∷ r 12 0 7 0 0 ∷ r 12 0 99 0 0 ∷ r 2 1 0 0 0 ∷ []) ∷
      -- 7: no such column; none in the tables of that name; CLASSOF of a local
      (r 13 0 1 1 0 ∷ r 12 0 8 0 0 ∷ r 2 1 0 0 0 ∷ r 14 0 20 0 0 ∷ []) ∷
      (r 13 0 2 1 0 ∷ r 12 0 7 0 0 ∷ r 12 0 8 0 0 ∷ r 2 1 0 0 0 ∷ r 14 0 20 8 0 ∷ []) ∷
      (r 13 0 1 1 0 ∷ r 12 0 8 0 0 ∷ r 2 1 0 0 0 ∷ r 16 0 30 0 0 ∷ r 1 0 0 0 0 ∷ r 15 0 30 0 0 ∷ []) ∷
      -- 8: a table taken twice
      (r 13 0 2 1 0 ∷ r 12 0 8 0 0 ∷ r 12 0 8 0 0 ∷ r 2 1 0 0 0 ∷ r 14 0 30 0 0 ∷ []) ∷
      -- 9: an operator, NOT, a condition, two limbs, a block's where, MAX of a boolean; SELECT's own where after its values
      (r 13 0 1 1 0 ∷ r 12 0 8 0 0 ∷ r 2 1 0 0 0 ∷ r 7 5 0 0 0 ∷ r 2 1 0 0 0 ∷ r 14 0 33 0 0 ∷ []) ∷
      (r 13 0 1 1 0 ∷ r 12 0 8 0 0 ∷ r 2 1 0 0 0 ∷ r 8 0 0 0 0 ∷ r 14 0 33 0 0 ∷ []) ∷
      (r 13 0 1 1 0 ∷ r 12 0 8 0 0 ∷ r 2 1 0 0 0 ∷ r 9 0 0 0 0 ∷ r 1 0 0 0 0 ∷ r 1 0 0 0 0 ∷ r 1 0 0 0 0 ∷ []) ∷
      (r 13 0 1 1 0 ∷ r 12 0 8 0 0 ∷ r 2 1 0 0 0 ∷ r 9 0 0 0 0 ∷ r 2 1 0 0 0 ∷ r 14 0 30 0 0 ∷ r 14 0 31 0 0 ∷ []) ∷
      (r 13 0 1 1 0 ∷ r 12 0 8 0 0 ∷ r 2 1 0 0 0 ∷ r 10 0 1 0 0 ∷ r 12 0 7 0 0 ∷ r 14 0 20 0 0 ∷ []) ∷
      (r 13 0 1 1 0 ∷ r 12 0 8 0 0 ∷ r 2 1 0 0 0 ∷ r 29 0 1 0 0 ∷ r 12 0 7 0 0 ∷ r 2 1 0 0 0 ∷ r 14 0 21 0 0 ∷ []) ∷
      (r 13 0 1 1 0 ∷ r 12 0 8 0 0 ∷ r 14 0 33 0 0 ∷ r 14 0 99 0 0 ∷ []) ∷
      (r 13 0 1 1 0 ∷ r 12 0 8 0 0 ∷ r 14 0 33 0 0 ∷ r 14 0 30 0 0 ∷ []) ∷
      []) ≡
      refusal 6 1 ∷
      refusal 6 5 ∷
      refusal 7 3 ∷
      refusal 7 4 ∷
      refusal 7 5 ∷
      refusal 8 4 ∷
      refusal 9 3 ∷
      refusal 9 3 ∷
      refusal 9 3 ∷
      refusal 9 3 ∷
      refusal 9 3 ∷
      refusal 9 3 ∷
      refusal 7 3 ∷
      refusal 9 0 ∷
      []

pub worked_cases : Samples
unfolding of_run answer_by answers_from bytes_of tree_by tree_from header le16 rec_bytes headed rec_at info_by column_at cols_from table_at tables_from catalogue_of later table_named const_of node_of node_at slot_of and_then enter_node enter many name_of parse_table parse_block parse_node parse_value root_node parse_root parse_view only_of in_cols in_table in_tabs in_scope nearest find before found_at tables_named then col_out class_out on_tabs need_bool resolve also_out resolve_all with_values with_test with_tabs resolve_view kind_of type_by expr_data expr_class as_tree bound by_info dominatesb level mark test table_tests conj translated size size_pairs size_select table_recs encode encode_pairs encode_select tree_file const_rec number_in le32 signed32 bits32 i32_at lub_of bind or_else nth map_res digits_rule digits_of scale_of format_of wider_of sum_type product_type logic_type order_type equal_type binop_type same_type limb_type is_null as_truth as_fixed as_time as_interval as_class kind_v as3 of3 as_cond cut_fixed cut_time cut_interval product_fixed product_interval sum_n product_n order_n equal_n equal_v or_null settled logic_v apply negate convert cell_place columns_from row_size place_after value_of cell_at cells_from row_at rows_from table_rows tables_rows store_of first_of ruled brought fold_type ordered_type pick_type fold_kind fold_op pick_kind info_of join joins join_all same_fixed choice let_class row_classes block_class concat_map product rows_for exists_step value_step kept_value count_step ordered better best_step fold_over pick_over agg_step run machine.as_rows machine.as_local machine.row_in machine.cell_in machine.local_in machine.class_bound cell_for pair_at concat run_select answer.row_at scope_of as_rows as_known row_in cell_in known_in type_out tabs_out rows_over is_true any_true keep only_value count_true fold_value better_of best_of pick_value to_type col_value class_value col_reads class_reads eval sees kept answer_by_reading
worked_cases = record { worked_view = refl; each_kind = refl; exists_over_nothing = refl; each_refusal = refl }
