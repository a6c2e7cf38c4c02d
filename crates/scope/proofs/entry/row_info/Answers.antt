-- `scope::entry::row_info` meets its contract: a table of the block, or past the last.
-- Assumes nothing.
use Rattle.scope.proofs.Blocks.{row_here, row_past}
use Rattle.scope.proofs.entry.row_info.Goals as goal

pub returns-in-Some : goal.returns-in-Some
returns-in-Some c = row_here _ _ _ _ _ c.in-Some.ensures.some _ c.info_at.ensures

pub returns-in-None : goal.returns-in-None
returns-in-None c = row_past _ _ _ _ (c.table_in.ensures.none c.in-None.is)
