-- The class writer's cycle meets its contracts: the depth left is the measure.
-- Assumes nothing.
use Prim.Native.Nat.{◌+◌, ◌*◌}
use Rattle.label.proofs.+write_class.Given as goal

abbrev pub decreases-write_at_row : goal.decreases-write_at_row
decreases-write_at_row l = 6 * l.level.now.depth + 8

abbrev pub decreases-write_binop : goal.decreases-write_binop
decreases-write_binop l = 6 * l.level.now.depth + 3

abbrev pub decreases-write_block : goal.decreases-write_block
decreases-write_block l = 6 * l.level.now.depth + 3

abbrev pub decreases-write_c : goal.decreases-write_c
decreases-write_c l = 6 * l.level.now.depth + 5

abbrev pub decreases-write_choice : goal.decreases-write_choice
decreases-write_choice l = 6 * l.level.now.depth + 6

abbrev pub decreases-write_if : goal.decreases-write_if
decreases-write_if l = 6 * l.level.now.depth + 3

abbrev pub decreases-write_kept : goal.decreases-write_kept
decreases-write_kept l = 6 * l.level.now.depth + 6

abbrev pub decreases-write_let : goal.decreases-write_let
decreases-write_let l = 6 * l.level.now.depth + 3

abbrev pub decreases-write_lub : goal.decreases-write_lub
decreases-write_lub l = 6 * l.level.now.depth + 6

abbrev pub decreases-write_open : goal.decreases-write_open
decreases-write_open l = 6 * l.level.now.depth + 4

abbrev pub decreases-write_valued : goal.decreases-write_valued
decreases-write_valued l = 6 * l.level.now.depth + 7

abbrev pub decreases-write_where : goal.decreases-write_where
decreases-write_where l = 6 * l.level.now.depth + 6
