-- `select::tests_size` meets its contract: table after table.
-- Assumes nothing.
use Rattle.label.proofs.select.+tests_size.Given as goal

abbrev pub decreases-tests_size : goal.decreases-tests_size
decreases-tests_size l = l.left
