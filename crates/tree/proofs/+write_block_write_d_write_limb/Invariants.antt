-- `tree::write_d`, `tree::write_limb` and `tree::write_block` meet their contracts: one law for each place of the code; the depth left is the measure.
-- Assumes nothing.
use Prim.Native.Nat.{◌+◌, ◌*◌}
use Rattle.tree.proofs.+write_block_write_d_write_limb.Given as goal

abbrev pub decreases-write_block : goal.decreases-write_block
decreases-write_block l = 3 * l.level.now.depth

abbrev pub decreases-write_d : goal.decreases-write_d
decreases-write_d l = 3 * l.level.now.depth + 1

abbrev pub decreases-write_limb : goal.decreases-write_limb
decreases-write_limb l = 3 * l.level.now.depth + 2
