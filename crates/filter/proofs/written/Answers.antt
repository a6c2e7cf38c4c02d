-- `filter::written` meets its contract.
-- Assumes nothing.
use Rattle.filter.proofs.Ways.{has_room, tree_written, tree_large}
use Rattle.filter.proofs.written.Goals as goal

pub write_tree-requires-clause-room : goal.write_tree-requires-clause-room
write_tree-requires-clause-room c = let h = c.fits.ensures.yes c.if-fits.true in has_room _ _ _ c.measure-size.ensures h.0 h.1

pub returns-then-fits : goal.returns-then-fits
returns-then-fits c = let h = c.fits.ensures.yes c.if-fits.true in tree_written _ _ _ c.measure-size.ensures h.0 h.1 c.write_tree.ensures

pub returns-else-fits : goal.returns-else-fits
returns-else-fits c = tree_large _ _ _ c.measure-size.ensures (c.fits.ensures.no c.if-fits.false)
