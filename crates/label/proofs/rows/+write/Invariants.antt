-- `rows::write` meets its contract: the tables' row classes from the left.
-- Assumes nothing.
use Rattle.label.proofs.rows.+write.Given as goal

abbrev pub decreases-write : goal.decreases-write
decreases-write l = l.j
