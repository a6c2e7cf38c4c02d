-- `cases::fill` meets its contract.
-- Assumes nothing.
use Rattle.cases.proofs.Laws.{fills}
use Rattle.cases.proofs.fill.Goals as goal

pub loop-i-init : goal.loop-i-init
loop-i-init c = search fills

pub loop-i-preserved : goal.loop-i-preserved
loop-i-preserved c = search fills

pub returns : goal.returns
returns c = search fills
