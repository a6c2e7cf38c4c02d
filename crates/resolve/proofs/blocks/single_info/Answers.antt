-- `resolve::blocks::single_info` meets its contract.
-- Assumes nothing.
use Rattle.resolve.proofs.Tables.{informed}
use Rattle.resolve.proofs.blocks.single_info.Goals as goal

pub returns : goal.returns
returns c = search informed
