-- `rows::info` meets its contract.
-- Assumes nothing.
use Rattle.label.proofs.rows.+info.Given as goal

abbrev pub decreases-info : goal.decreases-info
decreases-info l = l.j
