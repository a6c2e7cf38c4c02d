-- `tree::records::constant` meets its contract: a constant's record is its own encoding.
-- Assumes nothing.
use borrow.Author.Rules.{rules}
use Rattle.tree.proofs.Leaves.{const_copied}
use Rattle.tree.proofs.records.constant.Goals as goal

pub returns : goal.returns
returns c = const_copied _ _ _ c.requires.constant c.record_at.ensures (record { op_small = search rules; a_small = search rules; b_small = search rules; c_small = search rules })
