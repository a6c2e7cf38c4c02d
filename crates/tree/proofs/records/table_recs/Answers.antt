-- `tree::records::table_recs` meets its contract. The invariant: what is left of the records comes to all of them.
-- Assumes nothing.
use Rattle.tree.proofs.Leaves.{number_missing, left_room, left_again, left_done}
use Rattle.tree.proofs.Writers.{rests_begin}
use Rattle.tree.proofs.records.table_recs.Goals as goal

pub loop-j-init : goal.loop-j-init
loop-j-init c = rests_begin c.requires.room

pub returns-in_default : goal.returns-in_default
returns-in_default c = absurd (number_missing _ _ _ _ _ _ _ c.requires.tabled _ _ c.loop-j-test.true c.table_number.ensures.found c.in_default.is)

pub put-requires : goal.put-requires
put-requires c = left_room _ _ _ _ _ _ _ c.requires.tabled c.loop-j.invariant _ _ c.loop-j-test.true c.table_number.ensures.found c.in-Some.is

pub loop-j-preserved : goal.loop-j-preserved
loop-j-preserved c = left_again _ _ _ _ _ _ _ c.requires.tabled c.loop-j.invariant _ _ c.loop-j-test.true c.table_number.ensures.found c.in-Some.is c.put.ensures.bytes

pub returns : goal.returns
returns c = left_done _ _ _ _ _ _ _ c.requires.tabled c.loop-j.invariant c.loop-j-test.false
