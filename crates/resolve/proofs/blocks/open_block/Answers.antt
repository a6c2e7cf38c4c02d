-- `resolve::blocks::open_block` meets its contract: the record said is one of the block's, and has 16 bits.
-- Assumes nothing.
use native.Mathlib.Omega.{arith}
use mathlib.Core.Path.{sym, ◌∙◌}
use Rattle.resolve.proofs.Entries.{place_low}
use Rattle.resolve.proofs.blocks.open_block.Goals as goal

pub overflow_cast-result : goal.overflow_cast-result
overflow_cast-result c = let h = place_low _ _ _ _ _ _ _ c.requires.place_bound (sym c.in-Err.is ∙ c.open_block.ensures) in omega arith
