-- `filter::answer` meets its contract.
-- Assumes nothing.
use mathlib.Core.Path.{◌∙◌}
use borrow.Author.Rules.{rules}
use Rattle.resolve.proofs.Scoped.{passed}
use Rattle.filter.proofs.Ways.{cat_header, cat_few, answer_denied, answer_store, answer_both, store_is}
use Rattle.filter.proofs.answer.Goals as goal

pub returns-in_err-tables : goal.returns-in_err-tables
returns-in_err-tables c = rw (passed _ _ c.from_residual.ensures.1) (answer_denied _ _ _ _ _ _ _ c.in_err-tables.ensures)

pub u16_at-requires : goal.u16_at-requires
u16_at-requires c = search (cat_header, rules)

pub check_over-requires : goal.check_over-requires
check_over-requires c = search (cat_few, rules)

pub returns-in_err-check_over : goal.returns-in_err-check_over
returns-in_err-check_over c = rw (passed _ _ c.from_residual-in_err-check_over.ensures.1) (answer_store _ _ _ _ _ _ _ _ _ c.in_ok-tables.ensures (c.from-nc.ensures ∙ c.u16_at.ensures) c.in_err-check_over.ensures)

pub returns : goal.returns
returns c = answer_both _ _ _ _ _ _ _ _ _ c.in_ok-tables.ensures (c.from-nc.ensures ∙ c.u16_at.ensures) c.in_ok-check_over.ensures c.answer_over.ensures
