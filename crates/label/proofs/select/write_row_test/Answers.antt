-- `select::write_row_test` meets its contract: nothing, or four records.
-- Assumes nothing.
use mathlib.Core.Path.{sym}
use Rattle.word.proofs.Writing.{writes_then}
use Rattle.tree.proofs.Writers.{writes_as, writes_nothing, fits_as, fits_front, fits_after, fits_tree}
use Rattle.label.proofs.Whole.{row_known, class_out_lem, class_in}
use Rattle.label.proofs.select.write_row_test.Goals as goal

pub returns-then-dominates : goal.returns-then-dominates
returns-then-dominates c = writes_nothing (class_out_lem _ _ (row_known _ _ c.row_info.ensures) c.bound.ensures c.dominates.ensures c.if-dominates.true)

pub write_dom-requires : goal.write_dom-requires
write_dom-requires c = fits_front _ (fits_as (class_in _ _ (row_known _ _ c.row_info.ensures) c.bound.ensures c.dominates.ensures c.if-dominates.false) c.requires.room)

pub put-requires : goal.put-requires
put-requires c = fits_tree _ (fits_after c.write_dom.ensures (fits_as (class_in _ _ (row_known _ _ c.row_info.ensures) c.bound.ensures c.dominates.ensures c.if-dominates.false) c.requires.room))

pub returns : goal.returns
returns c = writes_as (sym (class_in _ _ (row_known _ _ c.row_info.ensures) c.bound.ensures c.dominates.ensures c.if-dominates.false)) (writes_then c.write_dom.ensures (writes_as c.one.ensures c.put.ensures.bytes))
