-- `resolve::blocks::Opened::rows` meets its contract: what is joined so far, and the rows that are left, come to all.
-- Assumes nothing.
use Rattle.resolve.proofs.Tables.{rowed, rows_again}
use Rattle.resolve.proofs.blocks.Opened.rows.Goals as goal

pub loop-j-init : goal.loop-j-init
loop-j-init c = search rowed

pub loop-j-preserved : goal.loop-j-preserved
loop-j-preserved c = rows_again _ _ _ _ _ _ _ _ _ c.tables_in-m.ensures c.loop-j-test.true c.loop-j.invariant c.row_info-in-loop-j.ensures c.new.ensures c.join-joined.ensures

pub returns : goal.returns
returns c = search rowed
