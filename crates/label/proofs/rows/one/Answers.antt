-- `rows::one` meets its contract: CLASS or ROWCLASS.
-- Assumes nothing.
use mathlib.Core.Path.{sym}
use Rattle.label.proofs.FromLeft.{row_fixed, row_open}
use Rattle.label.proofs.rows.one.Goals as goal

pub returns-in-Fixed : goal.returns-in-Fixed
returns-in-Fixed c = sym (row_fixed _ _ _ _ c.row_info.ensures c.in-Fixed.is)

pub returns-in-Bound : goal.returns-in-Bound
returns-in-Bound c = sym (row_open _ _ _ _ c.row_info.ensures c.in-Bound.is)
