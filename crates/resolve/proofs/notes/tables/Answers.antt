-- `resolve::notes::tables` meets its contract. The invariant: what is left of the numbers comes to all of them.
-- Assumes nothing.
use Rattle.resolve.proofs.Noting.{numbers_again, numbers_done, numbers_there}
use Rattle.resolve.proofs.notes.tables.Goals as goal

pub loop-j-preserved : goal.loop-j-preserved
loop-j-preserved c = numbers_again _ _ _ _ _ _ _ c.requires.tabled _ _ _ c.loop-j.invariant _ _ c.loop-j-test.true c.in-Some.ensures.found c.note.ensures

pub returns-in_default : goal.returns-in_default
returns-in_default c = absurd (numbers_there _ _ _ _ _ _ _ c.requires.tabled _ _ _ c.loop-j.invariant c.loop-j-test.true c.in_default.ensures.found)

pub returns : goal.returns
returns c = numbers_done _ _ _ _ _ _ _ c.requires.tabled _ _ _ c.loop-j.invariant c.loop-j-test.false
