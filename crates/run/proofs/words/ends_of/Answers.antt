-- `run::words::ends_of` meets its contract: from record i on the table is filled; i falls.
-- Assumes nothing.
use borrow.Author.Rules.{rules}
use Rattle.run.proofs.Ends.{filled_start, filled_more}
use Rattle.run.proofs.words.ends_of.Goals as goal

pub loop-i-init : goal.loop-i-init
loop-i-init c = filled_start _ _ _ c.requires.long

pub loop-i-preserved : goal.loop-i-preserved
loop-i-preserved c = search (filled_more, rules)
