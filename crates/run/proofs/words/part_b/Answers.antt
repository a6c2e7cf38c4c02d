-- `run::words::part_b` meets its contract.
-- Assumes nothing.
use Rattle.run.proofs.Records.{fields}
use Rattle.run.proofs.words.part_b.Goals as goal

pub returns-then-has_two-has_three : goal.returns-then-has_two-has_three
returns-then-has_two-has_three c = search fields

pub returns-then-is_pick : goal.returns-then-is_pick
returns-then-is_pick c = search fields

pub returns : goal.returns
returns c = search fields
