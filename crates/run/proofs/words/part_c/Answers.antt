-- `run::words::part_c` meets its contract.
-- Assumes nothing.
use Rattle.run.proofs.Records.{fields}
use Rattle.run.proofs.words.part_c.Goals as goal

pub returns-then-has_three : goal.returns-then-has_three
returns-then-has_three c = search fields

pub returns : goal.returns
returns c = search fields
