-- `rows::info` meets its contract.
-- Assumes nothing.
use Rattle.label.proofs.FromLeft.{rows_first, rows_next}
use Rattle.label.proofs.rows.+info.Goals as goal

pub returns-then-j-eq0 : goal.returns-then-j-eq0
returns-then-j-eq0 t c = rows_first _ _ _ c.if-j-eq0.true c.row_info.ensures

pub returns : goal.returns
returns t c = rows_next _ _ _ _ _ c.if-j-eq0.false c.info.ensures c.row_info-2.ensures c.join.ensures
