-- `scope::entry::block_class` meets its contract. The invariant: the lub of the tables from number j on.
-- Assumes nothing.
use Rattle.scope.proofs.Blocks.{blocks}
use Rattle.scope.proofs.entry.block_class.Goals as goal

pub loop-number-init : goal.loop-number-init
loop-number-init c = search blocks

pub loop-number-preserved : goal.loop-number-preserved
loop-number-preserved c = search blocks

pub returns : goal.returns
returns c = search blocks
