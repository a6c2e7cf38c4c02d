-- `resolve::select::root` meets its contract.
-- Assumes nothing.
use mathlib.Core.Path.{refl, ◌∙◌}
use Rattle.resolve.proofs.Scoped.{passed}
use Rattle.resolve.proofs.NotedRoots.{view_unnoted, view_unended, root_noted, root_ended}
use Rattle.resolve.proofs.Roots.{root_6, root_9, root_fine, root_ready, root_refused, root_room, values_ready, values_refused}
use Rattle.resolve.proofs.select.root.Goals as goal

pub open_block-requires-clause-count_in_bounds : goal.open_block-requires-clause-count_in_bounds
open_block-requires-clause-count_in_bounds c = root_room _ _ _ _ _ _ c.requires

pub returns-in_err-own-clause-value : goal.returns-in_err-own-clause-value
returns-in_err-own-clause-value c = passed _ _ c.from_residual.ensures.1 ∙ root_6 _ _ _ _ _ _ c.requires _ _ c.in_err-own.ensures

pub returns-in_err-own-clause-noted_view : goal.returns-in_err-own-clause-noted_view
returns-in_err-own-clause-noted_view c = view_unnoted _ _ _ _ _ _ (root_6 _ _ _ _ _ _ c.requires _ _ c.in_err-own.ensures)

pub returns-in_err-own-clause-ended_view : goal.returns-in_err-own-clause-ended_view
returns-in_err-own-clause-ended_view c = view_unended _ _ _ _ _ _ (root_6 _ _ _ _ _ _ c.requires _ _ c.in_err-own.ensures) refl

pub value-requires : goal.value-requires
value-requires c = root_ready _ _ _ _ _ _ c.requires _ c.in_ok-own.ensures

pub returns-in_err-test-clause-value : goal.returns-in_err-test-clause-value
returns-in_err-test-clause-value c = passed _ _ c.from_residual-in_err-test.ensures.1 ∙ root_refused _ _ _ _ _ _ c.requires _ c.in_ok-own.ensures _ c.in_err-test.ensures.value _ _ refl

pub returns-in_err-test-clause-noted_view : goal.returns-in_err-test-clause-noted_view
returns-in_err-test-clause-noted_view c = view_unnoted _ _ _ _ _ _ (root_refused _ _ _ _ _ _ c.requires _ c.in_ok-own.ensures _ c.in_err-test.ensures.value _ _ refl)

pub returns-in_err-test-clause-ended_view : goal.returns-in_err-test-clause-ended_view
returns-in_err-test-clause-ended_view c = view_unended _ _ _ _ _ _ (root_refused _ _ _ _ _ _ c.requires _ c.in_ok-own.ensures _ c.in_err-test.ensures.value _ _ refl) refl

pub values-requires : goal.values-requires
values-requires c = rw (c.from-first.ensures, c.value.ensures.held_unchanged) (values_ready _ _ _ _ _ _ c.requires _ c.in_ok-own.ensures _ c.in_ok-test.ensures.value _ refl)

pub returns-in_err-pairs-clause-value : goal.returns-in_err-pairs-clause-value
returns-in_err-pairs-clause-value c = passed _ _ c.from_residual-in_err-pairs.ensures.1 ∙ values_refused _ _ _ _ _ _ c.requires _ c.in_ok-own.ensures _ c.in_ok-test.ensures.value _ refl _ (rw (c.from-first.ensures, c.value.ensures.held_unchanged) at c.in_err-pairs.ensures.value) _ _ refl

pub returns-in_err-pairs-clause-noted_view : goal.returns-in_err-pairs-clause-noted_view
returns-in_err-pairs-clause-noted_view c = view_unnoted _ _ _ _ _ _ (values_refused _ _ _ _ _ _ c.requires _ c.in_ok-own.ensures _ c.in_ok-test.ensures.value _ refl _ (rw (c.from-first.ensures, c.value.ensures.held_unchanged) at c.in_err-pairs.ensures.value) _ _ refl)

pub returns-in_err-pairs-clause-ended_view : goal.returns-in_err-pairs-clause-ended_view
returns-in_err-pairs-clause-ended_view c = view_unended _ _ _ _ _ _ (values_refused _ _ _ _ _ _ c.requires _ c.in_ok-own.ensures _ c.in_ok-test.ensures.value _ refl _ (rw (c.from-first.ensures, c.value.ensures.held_unchanged) at c.in_err-pairs.ensures.value) _ _ refl) (c.values.auto.ends ∙ c.leave.auto.ends)

pub returns-then-ne-clause-value : goal.returns-then-ne-clause-value
returns-then-ne-clause-value c = rw c.wrong_type.ensures (root_9 _ _ _ _ _ _ c.requires _ c.in_ok-own.ensures _ c.in_ok-test.ensures.value _ refl _ (rw (c.from-first.ensures, c.value.ensures.held_unchanged) at c.in_ok-pairs.ensures.value) _ refl _ c.ne.ensures c.if-ne.true)

pub returns-then-ne-clause-noted_view : goal.returns-then-ne-clause-noted_view
returns-then-ne-clause-noted_view c = view_unnoted _ _ _ _ _ _ (root_9 _ _ _ _ _ _ c.requires _ c.in_ok-own.ensures _ c.in_ok-test.ensures.value _ refl _ (rw (c.from-first.ensures, c.value.ensures.held_unchanged) at c.in_ok-pairs.ensures.value) _ refl _ c.ne.ensures c.if-ne.true)

pub returns-then-ne-clause-ended_view : goal.returns-then-ne-clause-ended_view
returns-then-ne-clause-ended_view c = view_unended _ _ _ _ _ _ (root_9 _ _ _ _ _ _ c.requires _ c.in_ok-own.ensures _ c.in_ok-test.ensures.value _ refl _ (rw (c.from-first.ensures, c.value.ensures.held_unchanged) at c.in_ok-pairs.ensures.value) _ refl _ c.ne.ensures c.if-ne.true) (c.values.auto.ends ∙ c.leave.auto.ends)

pub returns-clause-value : goal.returns-clause-value
returns-clause-value c = rw (c.from.ensures, c.from-2.ensures) (root_fine _ _ _ _ _ _ c.requires _ c.in_ok-own.ensures _ c.in_ok-test.ensures.value _ refl _ (rw (c.from-first.ensures, c.value.ensures.held_unchanged) at c.in_ok-pairs.ensures.value) _ refl _ c.ne.ensures c.if-ne.false)

pub returns-clause-noted_view : goal.returns-clause-noted_view
returns-clause-noted_view c = root_noted _ _ _ _ _ _ c.requires _ c.in_ok-own.ensures _ c.in_ok-test.ensures.value _ refl _ _ _ c.value.ensures.noted_by (rw (c.from-first.ensures, c.value.ensures.held_unchanged) at c.values.ensures.noted_all)

pub returns-clause-ended_view : goal.returns-clause-ended_view
returns-clause-ended_view c = root_ended _ _ _ _ _ _ c.requires _ c.in_ok-own.ensures _ c.in_ok-test.ensures.value _ refl _ c.end_note.ensures _ _ _ c.leave.ensures (rw (c.from-first.ensures, c.value.ensures.held_unchanged) at c.values.ensures.ended_all)
