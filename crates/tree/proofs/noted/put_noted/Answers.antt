-- `tree::noted::put_noted` meets its contract: the mark, then the record.
-- Assumes nothing.
use Rattle.tree.proofs.Noting.{mark_asks, record_room, record_done}
use Rattle.tree.proofs.noted.put_noted.Goals as goal

pub put_mark-requires : goal.put_mark-requires
put_mark-requires c = mark_asks _ _ c.requires.room

pub put-requires : goal.put-requires
put-requires c = record_room _ _ c.put_mark.ensures c.requires.stands c.requires.room

pub returns : goal.returns
returns c = record_done _ _ c.put_mark.ensures _ c.plain.ensures c.put.ensures.bytes
