-- `resolve::blocks::Opened::picked` meets its contract.
-- Assumes nothing.
use Rattle.resolve.proofs.Tables.{blocked}
use Rattle.resolve.proofs.blocks.Opened.picked.Goals as goal

pub returns : goal.returns
returns c = search blocked
