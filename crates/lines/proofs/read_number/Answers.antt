-- `lines::read_number` meets its contract.
-- Assumes nothing.
use Rattle.lines.proofs.Laws.{numbers}
use Rattle.lines.proofs.read_number.Goals as goal

pub returns-then-is_empty : goal.returns-then-is_empty
returns-then-is_empty c = search numbers

pub loop-byte-init : goal.loop-byte-init
loop-byte-init c = search numbers

pub returns-then-value-gt65535 : goal.returns-then-value-gt65535
returns-then-value-gt65535 c = search numbers

pub loop-byte-preserved : goal.loop-byte-preserved
loop-byte-preserved c = search numbers

pub returns : goal.returns
returns c = search numbers
