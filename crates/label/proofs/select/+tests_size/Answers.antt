-- `select::tests_size` meets its contract: table after table.
-- Assumes nothing.
use Rattle.label.proofs.Counts.{tests_zero, tests_counted}
use Rattle.label.proofs.select.+tests_size.Goals as goal

pub returns-then-left-eq0 : goal.returns-then-left-eq0
returns-then-left-eq0 t c = tests_zero _ _ _ _ _ c.if-left-eq0.true

pub returns : goal.returns
returns t c = tests_counted _ _ _ _ _ _ _ _ _ _ _ _ _ c.if-left-eq0.false c.table_class_at.ensures c.row_info.ensures c.bound.ensures c.test_size-x.ensures c.test_size-y.ensures c.tests_size-z.ensures c.plus.ensures c.plus-2.ensures
