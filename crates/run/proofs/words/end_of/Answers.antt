-- `run::words::end_of` meets its contract.
-- Assumes nothing.
use Rattle.run.proofs.Records.{fields}
use Rattle.run.proofs.words.end_of.Goals as goal

pub returns-then-has_two : goal.returns-then-has_two
returns-then-has_two c = search fields

pub returns-then-has_three : goal.returns-then-has_three
returns-then-has_three c = search fields

pub returns-then-kind : goal.returns-then-kind
returns-then-kind c = search fields

pub returns-then-is_fold : goal.returns-then-is_fold
returns-then-is_fold c = search fields

pub returns-then-is_pick : goal.returns-then-is_pick
returns-then-is_pick c = search fields

pub returns : goal.returns
returns c = search fields
