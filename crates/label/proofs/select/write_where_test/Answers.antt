-- `select::write_where_test` meets its contract: nothing, or the test of the where's class.
-- Assumes nothing.
use mathlib.Core.Path.{sym}
use Rattle.word.proofs.Writing.{writes_then}
use Rattle.tree.proofs.Writers.{writes_as, writes_nothing, fits_as, fits_front, fits_after}
use Rattle.label.proofs.Whole.{class_out_lem, class_in}
use Rattle.label.proofs.select.write_where_test.Goals as goal

pub returns-then-dominates : goal.returns-then-dominates
returns-then-dominates c = writes_nothing (class_out_lem _ _ c.requires.known c.bound.ensures c.dominates.ensures c.if-dominates.true)

pub write_dom-requires : goal.write_dom-requires
write_dom-requires c = fits_front _ (fits_as (class_in _ _ c.requires.known c.bound.ensures c.dominates.ensures c.if-dominates.false) c.requires.room)

pub write_known-requires : goal.write_known-requires
write_known-requires c = record { accepted = c.requires.accepted; known = c.requires.known; room = fits_after c.write_dom.ensures (fits_as (class_in _ _ c.requires.known c.bound.ensures c.dominates.ensures c.if-dominates.false) c.requires.room) }

pub returns : goal.returns
returns c = writes_as (sym (class_in _ _ c.requires.known c.bound.ensures c.dominates.ensures c.if-dominates.false)) (writes_then c.write_dom.ensures c.write_known.ensures)
