-- `filter::translate` meets its contract.
-- Assumes nothing.
use Rattle.resolve.proofs.Scoped.{passed}
use Rattle.filter.proofs.Ways.{translate_denied, translate_tree}
use Rattle.filter.proofs.translate.Goals as goal

pub returns-in_err-tables : goal.returns-in_err-tables
returns-in_err-tables c = rw (passed _ _ c.from_residual.ensures.1) (translate_denied _ _ _ _ _ c.in_err-tables.ensures)

pub returns : goal.returns
returns c = translate_tree _ _ _ _ _ c.in_ok-tables.ensures c.tree_of.ensures
