-- `select::write_dom` meets its contract: three records.
-- Assumes nothing.
use mathlib.Core.Path.{sym}
use Rattle.word.proofs.Writing.{writes_then}
use Rattle.tree.proofs.Writers.{writes_as, fits_as, fits_front, fits_after, fits_record}
use Rattle.label.proofs.Whole.{dom_is}
use Rattle.label.proofs.select.write_dom.Goals as goal

pub put-requires : goal.put-requires
put-requires c = fits_record _ _ _ _ _ (fits_front _ (fits_as (dom_is _) c.requires))

pub put-requires-2 : goal.put-requires-2
put-requires-2 c = fits_record _ _ _ _ _ (fits_front _ (fits_after c.put.ensures.bytes (fits_as (dom_is _) c.requires)))

pub put-requires-3 : goal.put-requires-3
put-requires-3 c = fits_record _ _ _ _ _ (fits_after c.put-2.ensures.bytes (fits_after c.put.ensures.bytes (fits_as (dom_is _) c.requires)))

pub returns : goal.returns
returns c = writes_as (sym (dom_is _)) (writes_then c.put.ensures.bytes (writes_then c.put-2.ensures.bytes c.put-3.ensures.bytes))
