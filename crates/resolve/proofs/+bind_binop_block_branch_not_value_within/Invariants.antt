-- The functions of the walk, from `resolve::value` to `resolve::block`, end: a level of depth is three steps.
-- Assumes nothing.
use Prim.Native.Nat.{◌+◌}
use Rattle.resolve.proofs.+bind_binop_block_branch_not_value_within.Given as goal

abbrev pub decreases-block : goal.decreases-block
decreases-block l = l.depth + l.depth + l.depth

abbrev pub decreases-value : goal.decreases-value
decreases-value l = l.depth + l.depth + l.depth + 1

abbrev pub decreases-within : goal.decreases-within
decreases-within l = l.depth + l.depth + l.depth + 2

abbrev pub decreases-bind : goal.decreases-bind
decreases-bind l = l.depth + l.depth + l.depth

abbrev pub decreases-binop : goal.decreases-binop
decreases-binop l = l.depth + l.depth + l.depth

abbrev pub decreases-branch : goal.decreases-branch
decreases-branch l = l.depth + l.depth + l.depth

abbrev pub decreases-not : goal.decreases-not
decreases-not l = l.depth + l.depth + l.depth
