-- Worked views over one catalogue, as one table: accepted ones and each of 6 to 9; and what is known of a few values. The definitions compute.
-- Assumes nothing.
use Prim.Native.Nat.{ℕ}
use mathlib.Core.Path.{◌≡◌, refl}
use mathlib.Core.List.{List, [], ◌∷◌, ◌++◌, map}
use lib.ListN.{length}
use Rattle.word.specs.Bytes.{signed32, le16}
use Rattle.word.specs.Header.{drq, drc, headed, header, count_at}
use Rattle.word.specs.Record.{rec_at, rec_bytes}
use Rattle.word.specs.Refusal.{Checked, fine, refusal}
use Rattle.class.specs.Class.{level, mark, lub_of}
use Rattle.class.specs.Info.{info_by, bound_of, join_i, joins_i, same_i, choice_i}
use Rattle.class.specs.declared.Info.{Info}
use Rattle.class.specs.declared.Info.TheVariants.{Fixed, Bound}
use Rattle.cell.specs.Types.{digits_rule, type_by, kind_of, digits_of, scale_of, format_of, wider_of, sum_type, product_type, logic_type, order_type, equal_type, binop_type, same_type, limb_type}
use Rattle.cell.specs.declared.Type.TheVariants as T
use Rattle.catalogue.specs.Tables.{column_at, cols_from, table_at, tables_from, catalogue_of, later, table_named}
use Rattle.view.specs.Ast.{and_then, first_of}
use Rattle.view.specs.Record.{const_of, node_of, node_at, slot_of}
use Rattle.view.specs.Parse.{enter_node, enter, many, name_of, parse_table, parse_block, parse_node, parse_value, root_node, parse_root, parse_view}
use Rattle.scope.specs.Scopes.{block, only_of, in_cols, in_table, in_tabs, in_scope, nearest, find}
use Rattle.scope.specs.Blocks.{before, found_at, tables_named}
use Rattle.resolve.specs.Totals.{fold_type, ordered_type, pick_type}
use Rattle.resolve.specs.Resolve.{then, col_out, class_out, on_tabs, ruled, need_bool, brought, resolve, also_out, resolve_all, with_values, with_test, with_tabs, resolve_view}
use Rattle.resolve.specs.Infos.{join_all_i, block_i, class_info}
use Rattle.resolve.specs.Sizes.{size_d, sized_i, join_w, joins_w, join_all_w, choice_w, bind_size, let_w, rows_w, block_w, weigh, pairs_size, sums_of}
use Rattle.resolve.specs.Typed.{known_of, typed_at, typed_by}
use Rattle.resolve.specs.Claims.{resolved_by, verdict_of}
use Rattle.resolve.specs.declared.Known.{Known}
use Rattle.resolve.specs.declared.Sums.{Sums}

-- the bytes of records
bytes : List (List ℕ) → List ℕ
bytes [] = []
bytes (r ∷ rs) = r ++ bytes rs

-- table 7, whose rows have a bound, with the columns 20, fixed (4, 2), and 21, boolean and stored; table 8 with the columns 21, boolean, and 22, a class
catalogue : List ℕ
catalogue =
    header drc 6
    ++ bytes (rec_bytes 1 1 7 4096 0 ∷ rec_bytes 2 0 20 0 578 ∷ rec_bytes 2 1 21 8193 256 ∷ rec_bytes 1 0 8 0 0 ∷ rec_bytes 2 0 21 1 256 ∷ rec_bytes 2 0 22 0 1280 ∷ [])

view : List (List ℕ) → List ℕ
view rs = header drq (length rs) ++ bytes rs

-- SELECT of so many tables and values; TABLE; COL bare and qualified; CLASSOF; BOOL; BINOP; LET
select : ℕ → ℕ → List ℕ
select a b = rec_bytes 13 0 a b 0

table : ℕ → List ℕ
table name = rec_bytes 12 0 name 0 0

col : ℕ → List ℕ
col name = rec_bytes 14 0 name 0 0

of : ℕ → ℕ → List ℕ
of q name = rec_bytes 14 0 name q 0

classof : ℕ → List ℕ
classof name = rec_bytes 15 0 name 0 0

yes_record : List ℕ
yes_record = rec_bytes 2 1 0 0 0

op : ℕ → List ℕ
op o = rec_bytes 7 o 0 0 0

letin : ℕ → List ℕ
letin name = rec_bytes 16 0 name 0 0

-- SELECT of one value over table 7, every row
one : List (List ℕ) → List ℕ
one rs = view (select 1 1 ∷ table 7 ∷ yes_record ∷ rs)

views : List (List ℕ)
views =
    view (select 1 2 ∷ table 7 ∷ col 21 ∷ col 20 ∷ classof 21 ∷ [])
    ∷ view (select 1 1 ∷ table 9 ∷ col 21 ∷ col 20 ∷ [])
    ∷ one (rec_bytes 10 0 1 0 0 ∷ table 9 ∷ col 21 ∷ [])
    ∷ one (col 22 ∷ [])
    ∷ view (select 2 1 ∷ table 7 ∷ table 8 ∷ yes_record ∷ col 21 ∷ [])
    ∷ view (select 2 1 ∷ table 7 ∷ table 8 ∷ of 7 21 ∷ of 8 21 ∷ [])
    ∷ one (of 8 20 ∷ [])
    ∷ view (select 1 1 ∷ table 7 ∷ col 20 ∷ col 20 ∷ [])
    ∷ view (select 1 1 ∷ table 7 ∷ col 20 ∷ col 22 ∷ [])
    ∷ one (op 1 ∷ col 20 ∷ col 21 ∷ [])
    ∷ one (op 1 ∷ col 21 ∷ col 22 ∷ [])
    ∷ one (rec_bytes 9 0 0 0 0 ∷ col 21 ∷ col 20 ∷ rec_bytes 3 32 0 5 0 ∷ [])
    ∷ one (rec_bytes 9 0 0 0 0 ∷ col 21 ∷ col 20 ∷ col 21 ∷ [])
    ∷ one (rec_bytes 9 0 0 0 0 ∷ col 20 ∷ col 20 ∷ col 20 ∷ [])
    ∷ one (rec_bytes 8 0 0 0 0 ∷ col 20 ∷ [])
    ∷ one (letin 30 ∷ col 20 ∷ col 30 ∷ [])
    ∷ one (letin 30 ∷ col 30 ∷ col 20 ∷ [])
    ∷ one (letin 30 ∷ col 20 ∷ classof 30 ∷ [])
    ∷ one (rec_bytes 11 0 1 0 0 ∷ table 8 ∷ col 21 ∷ col 22 ∷ [])
    ∷ one (rec_bytes 11 0 1 0 0 ∷ table 8 ∷ col 22 ∷ col 99 ∷ [])
    ∷ one (rec_bytes 11 0 1 0 0 ∷ table 8 ∷ col 22 ∷ col 20 ∷ [])
    ∷ one (rec_bytes 28 64 1 0 0 ∷ table 8 ∷ col 21 ∷ [])
    ∷ one (rec_bytes 28 64 1 0 0 ∷ table 8 ∷ col 22 ∷ [])
    ∷ one (rec_bytes 29 0 1 0 0 ∷ table 7 ∷ col 21 ∷ col 20 ∷ [])
    ∷ one (rec_bytes 29 0 1 0 0 ∷ table 8 ∷ col 21 ∷ col 22 ∷ [])
    ∷ one (rec_bytes 30 0 1 0 0 ∷ table 8 ∷ col 21 ∷ col 21 ∷ [])
    ∷ one (rec_bytes 30 0 1 0 0 ∷ table 8 ∷ col 21 ∷ rec_bytes 1 0 0 0 0 ∷ [])
    ∷ []

-- the where is one record, with one for its class
taken : Info → ℕ → Checked Sums
taken i pairs = fine (record { info = i; values = 1; classes = 1; pairs = pairs })

judged : List ℕ → Checked Sums
judged v = verdict_of 3 (resolved_by (catalogue_of catalogue) (parse_view v))

-- THE TABLE, where the view's constants are of class 3
worked_views : map judged views ≡
    taken (Bound 8193) 4
    ∷ refusal 6 1
    ∷ refusal 6 4
    ∷ refusal 7 3
    ∷ refusal 8 4
    ∷ taken (Bound 8193) 2
    ∷ refusal 7 3
    ∷ refusal 9 0
    ∷ refusal 7 3
    ∷ refusal 9 3
    ∷ refusal 7 5
    ∷ taken (Fixed 3) 11
    ∷ refusal 9 3
    ∷ refusal 9 3
    ∷ refusal 9 3
    ∷ taken (Fixed 3) 4
    ∷ refusal 7 4
    ∷ refusal 7 5
    ∷ taken (Fixed 3) 9
    ∷ refusal 7 6
    ∷ refusal 9 3
    ∷ taken (Fixed 3) 8
    ∷ refusal 9 3
    ∷ taken (Fixed 3) 13
    ∷ refusal 9 3
    ∷ refusal 9 3
    ∷ refusal 9 3
    ∷ []
unfolding bytes catalogue view select table col of classof yes_record op letin one views judged signed32 le16 headed header rec_at rec_bytes info_by digits_rule type_by kind_of digits_of scale_of format_of wider_of sum_type product_type logic_type order_type equal_type binop_type same_type limb_type column_at cols_from table_at tables_from catalogue_of later table_named and_then first_of const_of node_of node_at slot_of enter_node enter many name_of parse_table parse_block parse_node parse_value root_node parse_root parse_view only_of in_cols in_table in_tabs in_scope nearest find before found_at tables_named then col_out class_out on_tabs ruled need_bool brought fold_type ordered_type pick_type resolve also_out resolve_all with_values with_test with_tabs resolve_view resolved_by taken join_i joins_i same_i choice_i bound_of class_info size_d sized_i join_w joins_w join_all_w choice_w bind_size let_w rows_w block_w weigh pairs_size sums_of verdict_of
worked_views = refl

-- WHAT IS KNOWN of a few values over a row of table 7, where the view's constants are of class 1
values : List (List ℕ)
values =
    one (op 9 ∷ rec_bytes 1 0 0 0 0 ∷ col 21 ∷ [])
    ∷ one (rec_bytes 9 0 0 0 0 ∷ col 21 ∷ col 20 ∷ rec_bytes 3 32 0 5 0 ∷ [])
    ∷ one (letin 30 ∷ col 21 ∷ col 30 ∷ [])
    ∷ one (letin 30 ∷ col 20 ∷ col 21 ∷ [])
    ∷ one (rec_bytes 10 0 1 0 0 ∷ table 8 ∷ col 21 ∷ [])
    ∷ one (rec_bytes 11 0 1 0 0 ∷ table 8 ∷ col 21 ∷ col 22 ∷ [])
    ∷ one (rec_bytes 28 64 1 0 0 ∷ table 8 ∷ col 21 ∷ [])
    ∷ one (rec_bytes 29 0 1 0 0 ∷ table 8 ∷ col 21 ∷ of 7 20 ∷ [])
    ∷ []

known : List ℕ → Checked Known
known v = typed_by 1 (catalogue_of catalogue) (block (table_at catalogue 6 0 ∷ []) ∷ []) (Fixed 0 ∷ []) (parse_value v (count_at v) 15 3)

worked_values : map known values ≡
    fine (record { ty = T.Boolean; info = Bound 8193; next = 6; values = 3; classes = 3 })
    ∷ fine (record { ty = T.Fixed 4 2; info = Bound 8193; next = 7; values = 5; classes = 6 })
    ∷ fine (record { ty = T.Boolean; info = Bound 8193; next = 6; values = 3; classes = 4 })
    ∷ fine (record { ty = T.Boolean; info = Bound 8193; next = 6; values = 3; classes = 3 })
    ∷ fine (record { ty = T.Boolean; info = Bound 1; next = 6; values = 3; classes = 5 })
    ∷ fine (record { ty = T.Class; info = Bound 1; next = 7; values = 4; classes = 5 })
    ∷ fine (record { ty = T.Fixed 4 0; info = Bound 1; next = 6; values = 3; classes = 5 })
    ∷ fine (record { ty = T.Fixed 4 2; info = Bound 1; next = 7; values = 4; classes = 5 })
    ∷ []
unfolding bytes catalogue view select table col of classof yes_record op letin one values known signed32 le16 headed header rec_at rec_bytes level mark lub_of info_by bound_of join_i joins_i same_i choice_i digits_rule type_by kind_of digits_of scale_of format_of wider_of equal_type binop_type same_type limb_type column_at cols_from table_at tables_from catalogue_of later table_named and_then first_of const_of node_of node_at slot_of enter_node enter many name_of parse_table parse_block parse_node parse_value only_of in_cols in_table in_tabs in_scope nearest find before found_at tables_named then col_out class_out on_tabs ruled need_bool brought fold_type ordered_type pick_type resolve join_all_i block_i class_info size_d sized_i join_w joins_w join_all_w choice_w bind_size let_w rows_w block_w weigh known_of typed_at typed_by
worked_values = refl
