-- The functions of the walk, from `resolve::value` to `resolve::block`, meet their contracts: one law for each place of the code.
-- Assumes nothing.
use native.Mathlib.Omega.{arith}
use mathlib.Core.Path.{refl, sym, ◌∙◌}
use Rattle.view.proofs.Read.{here_ok}
use Rattle.resolve.proofs.Turns.{binop_done, if_done, if_ready, if_refused, left_ready, left_refused, not_done, not_ready, not_refused, right_ready, right_refused, second_ready, second_refused, t_bad, t_classof, t_col, t_const, t_none, third_ready, third_refused}
use Rattle.resolve.proofs.Scoped.{passed, closed, block_6, block_few, block_next, block_opening, block_room, block_tabled, body_ready, body_refused, exists_done, exists_node, let_done, let_ready, let_refused, single_done, single_node, value_ready, value_refused, where_ready, where_refused}
use Rattle.resolve.proofs.Noted.{unnoted, const_noted, col_noted, class_noted, not_noted, binop_noted, if_noted, let_noted}
use Rattle.resolve.proofs.NotedBlocks.{exists_noted, single_noted}
use Rattle.resolve.proofs.+bind_binop_block_branch_not_value_within.Goals as goal

pub block-open_block-requires-clause-count_in_bounds : goal.block-open_block-requires-clause-count_in_bounds
block-open_block-requires-clause-count_in_bounds t c = block_room _ _ _ _ _ _ _ _ c.requires.ready _ _ c.requires.node

pub block-open_block-requires-clause-count_bound : goal.block-open_block-requires-clause-count_bound
block-open_block-requires-clause-count_bound t c = block_few _ _ _ _ _ _ _ _ c.requires.ready _ _ c.requires.node

pub block-open_block-requires-clause-place_bound : goal.block-open_block-requires-clause-place_bound
block-open_block-requires-clause-place_bound t c = let h = block_next _ _ _ _ _ _ _ _ c.requires.ready _ _ c.requires.node in omega arith

pub block-returns-in_err-own-clause-value : goal.block-returns-in_err-own-clause-value
block-returns-in_err-own-clause-value t c = passed _ _ c.from_residual.ensures.1 ∙ block_6 _ _ _ _ _ _ _ _ c.requires.ready _ _ c.requires.node _ _ c.in_err-own.ensures

pub block-returns-in_err-own-clause-noted_by : goal.block-returns-in_err-own-clause-noted_by
block-returns-in_err-own-clause-noted_by t c = unnoted _ _ _ _ _ _ _ _ _ _ (block_6 _ _ _ _ _ _ _ _ c.requires.ready _ _ c.requires.node _ _ c.in_err-own.ensures)

pub block-tables-requires-clause-tabled : goal.block-tables-requires-clause-tabled
block-tables-requires-clause-tabled t c = block_tabled _ _ _ _ _ _ _ _ c.requires.ready _ _ c.requires.node _ c.in_ok-own.ensures

pub block-tables-requires-clause-count_bound : goal.block-tables-requires-clause-count_bound
block-tables-requires-clause-count_bound t c = block_next _ _ _ _ _ _ _ _ c.requires.ready _ _ c.requires.node

pub block-overflow_add-next-2 : goal.block-overflow_add-next-2
block-overflow_add-next-2 t c = let h = block_next _ _ _ _ _ _ _ _ c.requires.ready _ _ c.requires.node in omega arith

pub block-within-requires : goal.block-within-requires
block-within-requires t c = ((let z = c.decreases in let l = c.requires.ready.left in omega arith), where_ready _ _ _ _ _ _ _ _ c.requires.ready _ _ c.requires.node _ c.in_ok-own.ensures _ refl)

pub block-returns-in_err-test-clause-value : goal.block-returns-in_err-test-clause-value
block-returns-in_err-test-clause-value t c = passed _ _ c.from_residual-in_err-test.ensures.1 ∙ where_refused _ _ _ _ _ _ _ _ c.requires.ready _ _ c.requires.node _ c.in_ok-own.ensures _ refl _ c.in_err-test.ensures.value _ _ refl

pub block-returns-in_err-test-clause-noted_by : goal.block-returns-in_err-test-clause-noted_by
block-returns-in_err-test-clause-noted_by t c = unnoted _ _ _ _ _ _ _ _ _ _ (where_refused _ _ _ _ _ _ _ _ c.requires.ready _ _ c.requires.node _ c.in_ok-own.ensures _ refl _ c.in_err-test.ensures.value _ _ refl)

pub block-within-requires-in-Values : goal.block-within-requires-in-Values
block-within-requires-in-Values t c = ((let z = c.decreases in let l = c.requires.ready.left in omega arith), rw (c.from-then.ensures, c.within.ensures.held_unchanged) (value_ready _ _ _ _ _ _ _ _ c.requires.ready _ _ c.requires.node _ c.in_ok-own.ensures _ refl _ c.in_ok-test.ensures.value _ refl _ c.in-Values.is))

pub block-returns-in_err-each-in-Values-clause-value : goal.block-returns-in_err-each-in-Values-clause-value
block-returns-in_err-each-in-Values-clause-value t c = passed _ _ c.from_residual-in_err-each-in-Values.ensures.1 ∙ value_refused _ _ _ _ _ _ _ _ c.requires.ready _ _ c.requires.node _ c.in_ok-own.ensures _ refl _ c.in_ok-test.ensures.value _ refl _ c.in-Values.is _ (rw (c.from-then.ensures, c.within.ensures.held_unchanged) at c.in_err-each-in-Values.ensures.value) _ _ refl

pub block-returns-in_err-each-in-Values-clause-noted_by : goal.block-returns-in_err-each-in-Values-clause-noted_by
block-returns-in_err-each-in-Values-clause-noted_by t c = unnoted _ _ _ _ _ _ _ _ _ _ (value_refused _ _ _ _ _ _ _ _ c.requires.ready _ _ c.requires.node _ c.in_ok-own.ensures _ refl _ c.in_ok-test.ensures.value _ refl _ c.in-Values.is _ (rw (c.from-then.ensures, c.within.ensures.held_unchanged) at c.in_err-each-in-Values.ensures.value) _ _ refl)

pub block-returns-in-Rows-clause-value : goal.block-returns-in-Rows-clause-value
block-returns-in-Rows-clause-value t c = exists_done _ _ _ _ _ _ _ _ c.requires.ready _ _ c.requires.node _ c.in_ok-own.ensures _ refl _ c.in_ok-test.ensures.value _ refl _ _ c.in-Rows.is c.exists.ensures

pub block-returns-in-Rows-clause-noted_by : goal.block-returns-in-Rows-clause-noted_by
block-returns-in-Rows-clause-noted_by t c = exists_noted _ _ _ _ _ _ _ _ c.requires.ready _ _ c.requires.node _ c.in_ok-own.ensures _ refl _ _ _ _ c.note.ensures c.tables.ensures c.within.ensures.noted_by _ c.in-Rows.is

pub block-returns-in_ok-each-in-Values-clause-value : goal.block-returns-in_ok-each-in-Values-clause-value
block-returns-in_ok-each-in-Values-clause-value t c = single_done _ _ _ _ _ _ _ _ c.requires.ready _ _ c.requires.node _ c.in_ok-own.ensures _ refl _ c.in_ok-test.ensures.value _ refl _ c.in-Values.is _ (rw (c.from-then.ensures, c.within.ensures.held_unchanged) at c.in_ok-each-in-Values.ensures.value) _ _ refl c.single.ensures

pub block-returns-in_ok-each-in-Values-clause-noted_by : goal.block-returns-in_ok-each-in-Values-clause-noted_by
block-returns-in_ok-each-in-Values-clause-noted_by t c = single_noted _ _ _ _ _ _ _ _ c.requires.ready _ _ c.requires.node _ c.in_ok-own.ensures _ refl _ _ _ _ c.note.ensures c.tables.ensures c.within.ensures.noted_by _ c.in_ok-test.ensures.value _ refl _ (rw (c.from-then.ensures, c.within.ensures.held_unchanged) at c.within-in-Values.ensures.noted_by) _ c.in-Values.is

pub block-invariant_of-opened : goal.block-invariant_of-opened
block-invariant_of-opened t c = record { opening = block_opening _ _ _ _ _ _ _ _ c.requires.ready _ _ c.requires.node _ c.in_ok-own.ensures }

pub block-invariant_of-opened-in-Values : goal.block-invariant_of-opened-in-Values
block-invariant_of-opened-in-Values t c = record { opening = block_opening _ _ _ _ _ _ _ _ c.requires.ready _ _ c.requires.node _ c.in_ok-own.ensures }

pub value-sound_at-requires-clause-i_value : goal.value-sound_at-requires-clause-i_value
value-sound_at-requires-clause-i_value t c = (here_ok _ _ _ _ c.requires.is_read).slot

pub binop-value-requires : goal.binop-value-requires
binop-value-requires t c = ((let z = c.decreases in let l = c.requires.ready.left in omega arith), left_ready _ _ _ _ _ _ _ _ _ c.requires.ready refl _ c.requires.node)

pub binop-returns-in_err-left-clause-value : goal.binop-returns-in_err-left-clause-value
binop-returns-in_err-left-clause-value t c = passed _ _ c.from_residual.ensures.1 ∙ left_refused _ _ _ _ _ _ _ _ _ c.requires.ready refl _ c.requires.node _ c.in_err-left.ensures.value _ _ refl

pub binop-returns-in_err-left-clause-noted_by : goal.binop-returns-in_err-left-clause-noted_by
binop-returns-in_err-left-clause-noted_by t c = unnoted _ _ _ _ _ _ _ _ _ _ (left_refused _ _ _ _ _ _ _ _ _ c.requires.ready refl _ c.requires.node _ c.in_err-left.ensures.value _ _ refl)

pub binop-value-requires-2 : goal.binop-value-requires-2
binop-value-requires-2 t c = ((let z = c.decreases in let l = c.requires.ready.left in omega arith), rw (c.from.ensures, c.value.ensures.held_unchanged) (right_ready _ _ _ _ _ _ _ _ _ c.requires.ready refl _ c.requires.node _ c.in_ok-left.ensures.value _ refl))

pub binop-returns-in_err-right-clause-value : goal.binop-returns-in_err-right-clause-value
binop-returns-in_err-right-clause-value t c = passed _ _ c.from_residual-in_err-right.ensures.1 ∙ right_refused _ _ _ _ _ _ _ _ _ c.requires.ready refl _ c.requires.node _ c.in_ok-left.ensures.value _ refl _ (rw (c.from.ensures, c.value.ensures.held_unchanged) at c.in_err-right.ensures.value) _ _ refl

pub binop-returns-in_err-right-clause-noted_by : goal.binop-returns-in_err-right-clause-noted_by
binop-returns-in_err-right-clause-noted_by t c = unnoted _ _ _ _ _ _ _ _ _ _ (right_refused _ _ _ _ _ _ _ _ _ c.requires.ready refl _ c.requires.node _ c.in_ok-left.ensures.value _ refl _ (rw (c.from.ensures, c.value.ensures.held_unchanged) at c.in_err-right.ensures.value) _ _ refl)

pub binop-returns-in_err-known-clause-value : goal.binop-returns-in_err-known-clause-value
binop-returns-in_err-known-clause-value t c = passed _ _ c.from_residual-in_err-known.ensures.1 ∙ binop_done _ _ _ _ _ _ _ _ _ c.requires.ready refl _ c.requires.node _ c.in_ok-left.ensures.value _ refl _ (rw (c.from.ensures, c.value.ensures.held_unchanged) at c.in_ok-right.ensures.value) _ _ refl c.in_err-known.ensures

pub binop-returns-in_err-known-clause-noted_by : goal.binop-returns-in_err-known-clause-noted_by
binop-returns-in_err-known-clause-noted_by t c = unnoted _ _ _ _ _ _ _ _ _ _ (binop_done _ _ _ _ _ _ _ _ _ c.requires.ready refl _ c.requires.node _ c.in_ok-left.ensures.value _ refl _ (rw (c.from.ensures, c.value.ensures.held_unchanged) at c.in_ok-right.ensures.value) _ _ refl c.in_err-known.ensures)

pub binop-returns-clause-value : goal.binop-returns-clause-value
binop-returns-clause-value t c = binop_done _ _ _ _ _ _ _ _ _ c.requires.ready refl _ c.requires.node _ c.in_ok-left.ensures.value _ refl _ (rw (c.from.ensures, c.value.ensures.held_unchanged) at c.in_ok-right.ensures.value) _ _ refl c.in_ok-known.ensures

pub binop-returns-clause-noted_by : goal.binop-returns-clause-noted_by
binop-returns-clause-noted_by t c = binop_noted _ _ _ _ _ _ _ _ c.requires.ready _ refl _ c.requires.node _ c.in_ok-left.ensures.value _ refl _ (binop_done _ _ _ _ _ _ _ _ _ c.requires.ready refl _ c.requires.node _ c.in_ok-left.ensures.value _ refl _ (rw (c.from.ensures, c.value.ensures.held_unchanged) at c.in_ok-right.ensures.value) _ _ refl c.in_ok-known.ensures) _ (c.from-2.ensures ∙ c.digits.ensures) _ _ _ _ c.value.ensures.noted_by (rw (c.from.ensures, c.value.ensures.held_unchanged) at c.value-2.ensures.noted_by) c.note.ensures

pub not-value-requires : goal.not-value-requires
not-value-requires t c = ((let z = c.decreases in let l = c.requires.ready.left in omega arith), not_ready _ _ _ _ _ _ _ _ _ c.requires.ready refl c.requires.node)

pub not-returns-in_err-operand-clause-value : goal.not-returns-in_err-operand-clause-value
not-returns-in_err-operand-clause-value t c = passed _ _ c.from_residual.ensures.1 ∙ not_refused _ _ _ _ _ _ _ _ _ c.requires.ready refl c.requires.node _ c.in_err-operand.ensures.value _ _ refl

pub not-returns-in_err-operand-clause-noted_by : goal.not-returns-in_err-operand-clause-noted_by
not-returns-in_err-operand-clause-noted_by t c = unnoted _ _ _ _ _ _ _ _ _ _ (not_refused _ _ _ _ _ _ _ _ _ c.requires.ready refl c.requires.node _ c.in_err-operand.ensures.value _ _ refl)

pub not-returns-clause-value : goal.not-returns-clause-value
not-returns-clause-value t c = not_done _ _ _ _ _ _ _ _ _ c.requires.ready refl c.requires.node _ c.in_ok-operand.ensures.value _ _ refl c.not.ensures

pub not-returns-clause-noted_by : goal.not-returns-clause-noted_by
not-returns-clause-noted_by t c = not_noted _ _ _ _ _ _ _ _ c.requires.ready _ refl c.requires.node _ _ _ c.note.ensures c.value.ensures.noted_by

pub branch-value-requires : goal.branch-value-requires
branch-value-requires t c = ((let z = c.decreases in let l = c.requires.ready.left in omega arith), if_ready _ _ _ _ _ _ _ _ _ c.requires.ready refl c.requires.node)

pub branch-returns-in_err-test-clause-value : goal.branch-returns-in_err-test-clause-value
branch-returns-in_err-test-clause-value t c = passed _ _ c.from_residual.ensures.1 ∙ if_refused _ _ _ _ _ _ _ _ _ c.requires.ready refl c.requires.node _ c.in_err-test.ensures.value _ _ refl

pub branch-returns-in_err-test-clause-noted_by : goal.branch-returns-in_err-test-clause-noted_by
branch-returns-in_err-test-clause-noted_by t c = unnoted _ _ _ _ _ _ _ _ _ _ (if_refused _ _ _ _ _ _ _ _ _ c.requires.ready refl c.requires.node _ c.in_err-test.ensures.value _ _ refl)

pub branch-value-requires-2 : goal.branch-value-requires-2
branch-value-requires-2 t c = ((let z = c.decreases in let l = c.requires.ready.left in omega arith), rw (c.from.ensures, c.value.ensures.held_unchanged) (second_ready _ _ _ _ _ _ _ _ _ c.requires.ready refl c.requires.node _ c.in_ok-test.ensures.value _ refl))

pub branch-returns-in_err-yes-clause-value : goal.branch-returns-in_err-yes-clause-value
branch-returns-in_err-yes-clause-value t c = passed _ _ c.from_residual-in_err-yes.ensures.1 ∙ second_refused _ _ _ _ _ _ _ _ _ c.requires.ready refl c.requires.node _ c.in_ok-test.ensures.value _ refl _ (rw (c.from.ensures, c.value.ensures.held_unchanged) at c.in_err-yes.ensures.value) _ _ refl

pub branch-returns-in_err-yes-clause-noted_by : goal.branch-returns-in_err-yes-clause-noted_by
branch-returns-in_err-yes-clause-noted_by t c = unnoted _ _ _ _ _ _ _ _ _ _ (second_refused _ _ _ _ _ _ _ _ _ c.requires.ready refl c.requires.node _ c.in_ok-test.ensures.value _ refl _ (rw (c.from.ensures, c.value.ensures.held_unchanged) at c.in_err-yes.ensures.value) _ _ refl)

pub branch-value-requires-3 : goal.branch-value-requires-3
branch-value-requires-3 t c = ((let z = c.decreases in let l = c.requires.ready.left in omega arith), rw (c.from-2.ensures, c.value-2.ensures.held_unchanged, c.value.ensures.held_unchanged) (third_ready _ _ _ _ _ _ _ _ _ c.requires.ready refl c.requires.node _ c.in_ok-test.ensures.value _ refl _ (rw (c.from.ensures, c.value.ensures.held_unchanged) at c.in_ok-yes.ensures.value) _ refl))

pub branch-returns-in_err-no-clause-value : goal.branch-returns-in_err-no-clause-value
branch-returns-in_err-no-clause-value t c = passed _ _ c.from_residual-in_err-no.ensures.1 ∙ third_refused _ _ _ _ _ _ _ _ _ c.requires.ready refl c.requires.node _ c.in_ok-test.ensures.value _ refl _ (rw (c.from.ensures, c.value.ensures.held_unchanged) at c.in_ok-yes.ensures.value) _ refl _ (rw (c.from-2.ensures, c.value-2.ensures.held_unchanged, c.value.ensures.held_unchanged) at c.in_err-no.ensures.value) _ _ refl

pub branch-returns-in_err-no-clause-noted_by : goal.branch-returns-in_err-no-clause-noted_by
branch-returns-in_err-no-clause-noted_by t c = unnoted _ _ _ _ _ _ _ _ _ _ (third_refused _ _ _ _ _ _ _ _ _ c.requires.ready refl c.requires.node _ c.in_ok-test.ensures.value _ refl _ (rw (c.from.ensures, c.value.ensures.held_unchanged) at c.in_ok-yes.ensures.value) _ refl _ (rw (c.from-2.ensures, c.value-2.ensures.held_unchanged, c.value.ensures.held_unchanged) at c.in_err-no.ensures.value) _ _ refl)

pub branch-returns-in_err-known-clause-value : goal.branch-returns-in_err-known-clause-value
branch-returns-in_err-known-clause-value t c = passed _ _ c.from_residual-in_err-known.ensures.1 ∙ if_done _ _ _ _ _ _ _ _ _ c.requires.ready refl c.requires.node _ c.in_ok-test.ensures.value _ refl _ (rw (c.from.ensures, c.value.ensures.held_unchanged) at c.in_ok-yes.ensures.value) _ refl _ (rw (c.from-2.ensures, c.value-2.ensures.held_unchanged, c.value.ensures.held_unchanged) at c.in_ok-no.ensures.value) _ _ refl c.in_err-known.ensures

pub branch-returns-in_err-known-clause-noted_by : goal.branch-returns-in_err-known-clause-noted_by
branch-returns-in_err-known-clause-noted_by t c = unnoted _ _ _ _ _ _ _ _ _ _ (if_done _ _ _ _ _ _ _ _ _ c.requires.ready refl c.requires.node _ c.in_ok-test.ensures.value _ refl _ (rw (c.from.ensures, c.value.ensures.held_unchanged) at c.in_ok-yes.ensures.value) _ refl _ (rw (c.from-2.ensures, c.value-2.ensures.held_unchanged, c.value.ensures.held_unchanged) at c.in_ok-no.ensures.value) _ _ refl c.in_err-known.ensures)

pub branch-mark-requires : goal.branch-mark-requires
branch-mark-requires t c = rw c.from-3.ensures (let b = c.requires.ready.lent.view_few in let i = (second_ready _ _ _ _ _ _ _ _ _ c.requires.ready refl c.requires.node _ c.in_ok-test.ensures.value _ refl).here in omega (arith, b, i))

pub branch-mark-requires-2 : goal.branch-mark-requires-2
branch-mark-requires-2 t c = rw c.from-4.ensures (let b = c.requires.ready.lent.view_few in let i = (third_ready _ _ _ _ _ _ _ _ _ c.requires.ready refl c.requires.node _ c.in_ok-test.ensures.value _ refl _ (rw (c.from.ensures, c.value.ensures.held_unchanged) at c.in_ok-yes.ensures.value) _ refl).here in omega (arith, b, i))

pub branch-returns-clause-value : goal.branch-returns-clause-value
branch-returns-clause-value t c = if_done _ _ _ _ _ _ _ _ _ c.requires.ready refl c.requires.node _ c.in_ok-test.ensures.value _ refl _ (rw (c.from.ensures, c.value.ensures.held_unchanged) at c.in_ok-yes.ensures.value) _ refl _ (rw (c.from-2.ensures, c.value-2.ensures.held_unchanged, c.value.ensures.held_unchanged) at c.in_ok-no.ensures.value) _ _ refl c.in_ok-known.ensures

pub branch-returns-clause-noted_by : goal.branch-returns-clause-noted_by
branch-returns-clause-noted_by t c = if_noted _ _ _ _ _ _ _ _ c.requires.ready _ refl c.requires.node _ c.in_ok-test.ensures.value _ refl _ (rw (c.from.ensures, c.value.ensures.held_unchanged) at c.in_ok-yes.ensures.value) _ refl _ (rw (c.from-2.ensures, c.value-2.ensures.held_unchanged, c.value.ensures.held_unchanged) at c.in_ok-no.ensures.value) _ refl _ (if_done _ _ _ _ _ _ _ _ _ c.requires.ready refl c.requires.node _ c.in_ok-test.ensures.value _ refl _ (rw (c.from.ensures, c.value.ensures.held_unchanged) at c.in_ok-yes.ensures.value) _ refl _ (rw (c.from-2.ensures, c.value-2.ensures.held_unchanged, c.value.ensures.held_unchanged) at c.in_ok-no.ensures.value) _ _ refl c.in_ok-known.ensures) _ _ _ _ _ _ c.note.ensures c.value.ensures.noted_by (rw (c.from.ensures, c.value.ensures.held_unchanged) at c.value-2.ensures.noted_by) (rw (c.from-2.ensures, c.value-2.ensures.held_unchanged, c.value.ensures.held_unchanged) at c.value-3.ensures.noted_by) (rw (c.from-4.ensures, c.mark.ensures, c.from-3.ensures) at c.mark-2.ensures)

pub bind-value-requires : goal.bind-value-requires
bind-value-requires t c = ((let z = c.decreases in let l = c.requires.ready.left in omega arith), let_ready _ _ _ _ _ _ _ _ c.requires.ready _ c.requires.node)

pub bind-returns-in_err-bound-clause-value : goal.bind-returns-in_err-bound-clause-value
bind-returns-in_err-bound-clause-value t c = passed _ _ c.from_residual.ensures.1 ∙ let_refused _ _ _ _ _ _ _ _ c.requires.ready _ c.requires.node _ c.in_err-bound.ensures.value _ _ refl

pub bind-returns-in_err-bound-clause-noted_by : goal.bind-returns-in_err-bound-clause-noted_by
bind-returns-in_err-bound-clause-noted_by t c = unnoted _ _ _ _ _ _ _ _ _ _ (let_refused _ _ _ _ _ _ _ _ c.requires.ready _ c.requires.node _ c.in_err-bound.ensures.value _ _ refl)

pub bind-within-requires : goal.bind-within-requires
bind-within-requires t c = ((let z = c.decreases in let l = c.requires.ready.left in omega arith), rw (c.from-start.ensures, c.value.ensures.held_unchanged) (body_ready _ _ _ _ _ _ _ _ c.requires.ready _ c.requires.node _ (sym c.in_ok-bound.ensures.value) _ _ c.local_scope-own.ensures refl))

pub bind-returns-in_err-body-clause-value : goal.bind-returns-in_err-body-clause-value
bind-returns-in_err-body-clause-value t c = passed _ _ c.from_residual-in_err-body.ensures.1 ∙ body_refused _ _ _ _ _ _ _ _ c.requires.ready _ c.requires.node _ (sym c.in_ok-bound.ensures.value) _ _ c.local_scope-own.ensures refl _ (rw (c.from-start.ensures, c.value.ensures.held_unchanged) at c.in_err-body.ensures.value) _ _ refl

pub bind-returns-in_err-body-clause-noted_by : goal.bind-returns-in_err-body-clause-noted_by
bind-returns-in_err-body-clause-noted_by t c = unnoted _ _ _ _ _ _ _ _ _ _ (body_refused _ _ _ _ _ _ _ _ c.requires.ready _ c.requires.node _ (sym c.in_ok-bound.ensures.value) _ _ c.local_scope-own.ensures refl _ (rw (c.from-start.ensures, c.value.ensures.held_unchanged) at c.in_err-body.ensures.value) _ _ refl)

pub bind-returns-clause-value : goal.bind-returns-clause-value
bind-returns-clause-value t c = let_done _ _ _ _ _ _ _ _ c.requires.ready _ c.requires.node _ (sym c.in_ok-bound.ensures.value) _ _ c.local_scope-own.ensures refl _ (rw (c.from-start.ensures, c.value.ensures.held_unchanged) at c.in_ok-body.ensures.value) _ _ refl c.bind.ensures

pub bind-returns-clause-noted_by : goal.bind-returns-clause-noted_by
bind-returns-clause-noted_by t c = let_noted _ _ _ _ _ _ _ _ c.requires.ready _ c.requires.node _ (sym c.in_ok-bound.ensures.value) _ _ c.local_scope-own.ensures refl _ _ _ _ c.note.ensures (rw (c.from-start.ensures, c.value.ensures.held_unchanged) at c.within.ensures.noted_by) c.value.ensures.noted_by

pub value-block-requires : goal.value-block-requires
value-block-requires t c = ((let z = c.decreases in let l = c.requires.left in omega arith), (c.requires, rw c.from-count.ensures (exists_node _ _ _ _ _ c.sound_at.ensures c.in-Exists.is)))

pub value-block-requires-in-Single : goal.value-block-requires-in-Single
value-block-requires-in-Single t c = ((let z = c.decreases in let l = c.requires.left in omega arith), (c.requires, rw c.from-count-in-Single.ensures (single_node _ _ _ _ _ c.sound_at.ensures c.in-Single.is)))

pub value-returns-in-Const-clause-value : goal.value-returns-in-Const-clause-value
value-returns-in-Const-clause-value t c = t_const _ _ _ _ _ _ _ _ _ c.requires c.sound_at.ensures _ _ _ c.in-Const.is c.leaf.ensures

pub value-returns-in-Const-clause-noted_by : goal.value-returns-in-Const-clause-noted_by
value-returns-in-Const-clause-noted_by t c = const_noted _ _ _ _ _ _ _ _ c.requires _ c.sound_at.ensures _ _ c.in-Const.is _ _ c.note.ensures

pub value-returns-in-Col-clause-value : goal.value-returns-in-Col-clause-value
value-returns-in-Col-clause-value t c = t_col _ _ _ _ _ _ _ _ _ c.requires c.sound_at.ensures _ _ _ _ c.in-Col.is c.find-found.ensures c.column.ensures

pub value-returns-in-Col-clause-noted_by : goal.value-returns-in-Col-clause-noted_by
value-returns-in-Col-clause-noted_by t c = col_noted _ _ _ _ _ _ _ _ c.requires _ c.sound_at.ensures _ _ _ c.find-found.ensures _ c.found_note.ensures _ _ c.note-in-Col.ensures c.in-Col.is

pub value-returns-in-Classof-clause-value : goal.value-returns-in-Classof-clause-value
value-returns-in-Classof-clause-value t c = t_classof _ _ _ _ _ _ _ _ _ c.requires c.sound_at.ensures _ _ _ _ c.in-Classof.is c.find-found-in-Classof.ensures c.class_of.ensures

pub value-returns-in-Classof-clause-noted_by : goal.value-returns-in-Classof-clause-noted_by
value-returns-in-Classof-clause-noted_by t c = class_noted _ _ _ _ _ _ _ _ c.requires _ c.sound_at.ensures _ _ _ c.find-found-in-Classof.ensures _ c.found_note-in-Classof.ensures _ _ c.note-in-Classof.ensures c.in-Classof.is

pub value-returns-in-Table-clause-value : goal.value-returns-in-Table-clause-value
value-returns-in-Table-clause-value t c = t_none _ _ _ _ _ _ _ _ _ c.requires c.sound_at.ensures 4 c.args.at c.in-Table.is

pub value-returns-in-Table-clause-noted_by : goal.value-returns-in-Table-clause-noted_by
value-returns-in-Table-clause-noted_by t c = unnoted _ _ _ _ _ _ _ _ _ _ (t_none _ _ _ _ _ _ _ _ _ c.requires c.sound_at.ensures 4 c.args.at c.in-Table.is)

pub value-returns-in-Bad-clause-value : goal.value-returns-in-Bad-clause-value
value-returns-in-Bad-clause-value t c = t_bad _ _ _ _ _ _ _ _ _ c.requires c.sound_at.ensures 3 c.args.at c.in-Bad.is

pub value-returns-in-Bad-clause-noted_by : goal.value-returns-in-Bad-clause-noted_by
value-returns-in-Bad-clause-noted_by t c = unnoted _ _ _ _ _ _ _ _ _ _ (t_bad _ _ _ _ _ _ _ _ _ c.requires c.sound_at.ensures 3 c.args.at c.in-Bad.is)

pub within-returns-clause-held_unchanged : goal.within-returns-clause-held_unchanged
within-returns-clause-held_unchanged t c = closed _ _ _ _ _ (c.value-answer.ensures.held_unchanged ∙ c.push.ensures)
