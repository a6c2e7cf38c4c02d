-- `filter::answer_over` meets its contract.
-- Assumes nothing.
use Rattle.resolve.proofs.Scoped.{passed}
use native.Mathlib.Omega.{arith}
use Rattle.filter.proofs.Answers.{can_answer, both_over, both_taken, both_refused}
use Rattle.filter.proofs.answer_over.Goals as goal

pub returns-in_err-tree_of : goal.returns-in_err-tree_of
returns-in_err-tree_of c = rw (passed _ _ c.from_residual.ensures.1) (both_refused _ _ _ _ _ _ _ _ c.in_err-tree_of.ensures)

pub answer-requires : goal.answer-requires
answer-requires c = can_answer _ _ _ _ _ _ (record { catalogue_fine = c.requires.cat_value; store_fine = c.requires.store_value; cat_bytes = λ i. omega (arith, c.type_inv.cat i); view_bytes = λ i. omega (arith, c.type_inv.view i); store_bytes = λ i. omega (arith, c.type_inv.store i); k_small = omega (arith, c.ranges.k); q_small = omega (arith, c.ranges.q) }) _ _ _ c.in_ok-tree_of.ensures

pub returns-in_default : goal.returns-in_default
returns-in_default c = both_over _ _ _ _ _ _ (record { catalogue_fine = c.requires.cat_value; store_fine = c.requires.store_value; cat_bytes = λ i. omega (arith, c.type_inv.cat i); view_bytes = λ i. omega (arith, c.type_inv.view i); store_bytes = λ i. omega (arith, c.type_inv.store i); k_small = omega (arith, c.ranges.k); q_small = omega (arith, c.ranges.q) }) _ _ _ c.in_ok-tree_of.ensures _ _ c.in_default.ensures

pub returns : goal.returns
returns c = both_taken _ _ _ _ _ _ (record { catalogue_fine = c.requires.cat_value; store_fine = c.requires.store_value; cat_bytes = λ i. omega (arith, c.type_inv.cat i); view_bytes = λ i. omega (arith, c.type_inv.view i); store_bytes = λ i. omega (arith, c.type_inv.store i); k_small = omega (arith, c.ranges.k); q_small = omega (arith, c.ranges.q) }) _ _ _ c.in_ok-tree_of.ensures _ _ _ c.in-Some.ensures
