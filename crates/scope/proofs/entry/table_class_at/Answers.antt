-- `scope::entry::table_class_at` meets its contract: a table of the block, or past the last.
-- Assumes nothing.
use Rattle.scope.proofs.Columns.{c_read}
use Rattle.scope.proofs.Blocks.{class_here, class_past}
use Rattle.scope.proofs.entry.table_class_at.Goals as goal

pub returns-in-Some : goal.returns-in-Some
returns-in-Some c = class_here _ _ _ _ _ c.in-Some.ensures.some _ (c_read _ _ _ c.record_at.ensures)

pub returns-in-None : goal.returns-in-None
returns-in-None c = class_past _ _ _ _ (c.table_in.ensures.none c.in-None.is)
