-- The worked cases hold of the rules: one statement, by computing.
-- Assumes nothing.
use mathlib.Core.Path.{◌≡◌, refl}
use mathlib.Core.List.{map}
use Rattle.cell.specs.Res.{bind}
use Rattle.cell.specs.Types.{kind_of, digits_of, scale_of, wider_of, sum_type, product_type, logic_type, equal_type, binop_type}
use Rattle.cell.specs.Values.{is_null, as_fixed}
use Rattle.cell.specs.Apply.{cut_fixed, cut_interval, product_fixed, product_interval, sum_n, product_n, or_null, equal_v, settled, logic_v, apply}
use Rattle.class.specs.Class.{level, mark, dominatesb, lub_of}
use Rattle.scope.specs.Scopes.{only_of, in_cols, in_table, in_tabs, in_scope, nearest, find}
use Rattle.resolve.specs.Resolve.{then, col_out, ruled, resolve}
use Rattle.tree.specs.Trans.{as_tree, by_info, join, expr_class}
use Rattle.worked_cases.specs.Cases.{label_of, answer, questions, answers}

pub worked_cases : map answer questions ≡ answers
unfolding answer label_of only_of in_cols in_table in_tabs in_scope nearest find then col_out ruled resolve as_tree by_info join expr_class bind kind_of digits_of scale_of wider_of sum_type product_type logic_type equal_type binop_type is_null as_fixed cut_fixed cut_interval product_fixed product_interval sum_n product_n or_null equal_v settled logic_v apply level mark dominatesb lub_of
worked_cases = refl
