-- `select::write_fixed_test` meets its contract: nothing, or four records.
-- Assumes nothing.
use mathlib.Core.Path.{sym}
use Rattle.word.proofs.Writing.{writes_then}
use Rattle.tree.proofs.Writers.{writes_as, writes_nothing, fits_as, fits_front, fits_after, fits_record}
use Rattle.label.proofs.Whole.{fixed_out, fixed_in}
use Rattle.label.proofs.select.write_fixed_test.Goals as goal

pub returns-then-dominates : goal.returns-then-dominates
returns-then-dominates c = writes_nothing (fixed_out _ _ c.dominates.ensures c.if-dominates.true)

pub write_dom-requires : goal.write_dom-requires
write_dom-requires c = fits_front _ (fits_as (fixed_in _ _ c.dominates.ensures c.if-dominates.false) c.requires)

pub put-requires : goal.put-requires
put-requires c = fits_record _ _ _ _ _ (fits_after c.write_dom.ensures (fits_as (fixed_in _ _ c.dominates.ensures c.if-dominates.false) c.requires))

pub returns : goal.returns
returns c = writes_as (sym (fixed_in _ _ c.dominates.ensures c.if-dominates.false)) (writes_then c.write_dom.ensures c.put.ensures.bytes)
