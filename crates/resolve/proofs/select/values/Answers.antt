-- `resolve::select::values` meets its contract: what is left of the values comes to what all come to.
-- Assumes nothing.
use mathlib.Core.Path.{refl, ◌∙◌}
use Rattle.resolve.proofs.Scoped.{passed}
use Rattle.resolve.proofs.NotedRoots.{all_unnoted, all_unended, onward_begin, onward_done, onward_again, ending_begin, ending_done, ending_again}
use Rattle.resolve.proofs.Roots.{left_begin, left_done, left_ready, left_refused, left_again}
use Rattle.resolve.proofs.select.values.Goals as goal

pub loop-j-init : goal.loop-j-init
loop-j-init c = (left_begin _ _ _ _ _ _ _ c.requires, onward_begin _ _ _ _ _ _ _, ending_begin _ _ _ _ _ _ _, refl)

pub value-requires : goal.value-requires
value-requires c = rw c.loop-j.invariant.3 (left_ready _ _ _ _ _ _ _ _ _ _ c.loop-j.invariant.0 c.loop-j-test.true)

pub returns-in_err-known-clause-value : goal.returns-in_err-known-clause-value
returns-in_err-known-clause-value c = passed _ _ c.from_residual.ensures.1 ∙ left_refused _ _ _ _ _ _ _ _ _ _ c.loop-j.invariant.0 c.loop-j-test.true _ (rw c.loop-j.invariant.3 at c.in_err-known.ensures.value) _ _ refl

pub returns-in_err-known-clause-noted_all : goal.returns-in_err-known-clause-noted_all
returns-in_err-known-clause-noted_all c = all_unnoted _ _ _ _ _ _ _ _ (left_refused _ _ _ _ _ _ _ _ _ _ c.loop-j.invariant.0 c.loop-j-test.true _ (rw c.loop-j.invariant.3 at c.in_err-known.ensures.value) _ _ refl)

pub returns-in_err-known-clause-ended_all : goal.returns-in_err-known-clause-ended_all
returns-in_err-known-clause-ended_all c = all_unended _ _ _ _ _ _ _ _ _ (left_refused _ _ _ _ _ _ _ _ _ _ c.loop-j.invariant.0 c.loop-j-test.true _ (rw c.loop-j.invariant.3 at c.in_err-known.ensures.value) _ _ refl) c.loop-j.invariant.2.long

pub loop-j-preserved : goal.loop-j-preserved
loop-j-preserved c = rw c.from-next.ensures (left_again _ _ _ _ _ _ _ _ _ _ c.loop-j.invariant.0 c.loop-j-test.true _ (rw c.loop-j.invariant.3 at c.in_ok-known.ensures.value) _ _ _ refl c.plus.ensures c.plus-pairs.ensures, onward_again _ _ _ _ _ _ _ _ _ _ c.loop-j.invariant.1 _ _ c.loop-j.invariant.0 c.loop-j-test.true _ (rw c.loop-j.invariant.3 at c.in_ok-known.ensures.value) _ refl _ (rw c.loop-j.invariant.3 at c.value.ensures.noted_by), ending_again _ _ _ _ _ _ _ _ _ _ c.loop-j.invariant.2 _ _ c.loop-j.invariant.0 c.loop-j-test.true _ (rw c.loop-j.invariant.3 at c.in_ok-known.ensures.value) _ refl _ c.end_note.ensures _ c.leave.ensures, c.value.ensures.held_unchanged ∙ c.loop-j.invariant.3)

pub returns-clause-value : goal.returns-clause-value
returns-clause-value c = rw c.from.ensures (left_done _ _ _ _ _ _ _ _ _ _ c.loop-j.invariant.0 c.loop-j-test.false)

pub returns-clause-noted_all : goal.returns-clause-noted_all
returns-clause-noted_all c = onward_done _ _ _ _ _ _ _ _ _ _ c.loop-j.invariant.1 c.loop-j-test.false

pub returns-clause-ended_all : goal.returns-clause-ended_all
returns-clause-ended_all c = ending_done _ _ _ _ _ _ _ _ _ _ c.loop-j.invariant.2 c.loop-j-test.false
