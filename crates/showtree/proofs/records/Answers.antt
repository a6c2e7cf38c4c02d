-- `showtree::records` meets its contract: a record more.
-- Assumes nothing.
use Rattle.showtree.proofs.Laws.{record_further}
use Rattle.showtree.proofs.records.Goals as goal

pub loop-i-preserved : goal.loop-i-preserved
loop-i-preserved g c = record_further _ _ _ _ _ _ c.loop-i.invariant c.in_ok-print_record.ensures c.record_at.ensures
