-- `rows::write` meets its contract: the tables' row classes from the left.
-- Assumes nothing.
use native.Mathlib.Omega.{arith}
use mathlib.Core.Path.{sym, ◌∙◌}
use Rattle.word.proofs.Writing.{writes_then}
use Rattle.tree.proofs.Writers.{writes_as, fits_as, fits_front, fits_after, fits_record, fits_tree}
use Rattle.label.proofs.FromLeft.{rows_one, rows_fixed, rows_turned, rows_open}
use Rattle.label.proofs.rows.+write.Goals as goal

pub put-requires : goal.put-requires
put-requires t c = fits_tree _ c.requires.room

pub returns-then-j-eq0 : goal.returns-then-j-eq0
returns-then-j-eq0 t c = writes_as (c.one.ensures ∙ sym (rows_one _ _ c.if-j-eq0.true)) c.put.ensures.bytes

pub put-requires-in-Fixed : goal.put-requires-in-Fixed
put-requires-in-Fixed t c = fits_record _ _ _ _ _ (fits_as (rows_fixed _ _ _ _ c.info-i.ensures c.in-Fixed.is) c.requires.room)

pub put-requires-in-Bound : goal.put-requires-in-Bound
put-requires-in-Bound t c = fits_tree _ c.requires.room

pub put-requires-in-Fixed-before : goal.put-requires-in-Fixed-before
put-requires-in-Fixed-before t c = fits_tree _ (fits_front _ (fits_after c.put-in-Bound.ensures.bytes (fits_as (rows_turned _ _ _ _ _ _ c.if-j-eq0.false c.info-i.ensures c.in-Bound.is c.info-before.ensures c.in-Fixed-before.is) c.requires.room)))

pub put-requires-in-Fixed-before-2 : goal.put-requires-in-Fixed-before-2
put-requires-in-Fixed-before-2 t c = fits_record _ _ _ _ _ (fits_after (writes_as c.one-in-Fixed-before.ensures c.put-in-Fixed-before.ensures.bytes) (fits_after c.put-in-Bound.ensures.bytes (fits_as (rows_turned _ _ _ _ _ _ c.if-j-eq0.false c.info-i.ensures c.in-Bound.is c.info-before.ensures c.in-Fixed-before.is) c.requires.room)))

pub write-requires : goal.write-requires
write-requires t c = (omega arith, ((c.requires.among.0, c.requires.among.1, omega arith), fits_front _ (fits_after c.put-in-Bound.ensures.bytes (fits_as (rows_open _ _ _ _ c.if-j-eq0.false c.info-before.ensures c.in-Bound-before.is) c.requires.room))))

pub put-requires-in-Bound-before : goal.put-requires-in-Bound-before
put-requires-in-Bound-before t c = fits_tree _ (fits_after c.write.ensures (fits_after c.put-in-Bound.ensures.bytes (fits_as (rows_open _ _ _ _ c.if-j-eq0.false c.info-before.ensures c.in-Bound-before.is) c.requires.room)))

pub returns-in-Fixed : goal.returns-in-Fixed
returns-in-Fixed t c = writes_as (sym (rows_fixed _ _ _ _ c.info-i.ensures c.in-Fixed.is)) c.put-in-Fixed.ensures.bytes

pub returns-in-Fixed-before : goal.returns-in-Fixed-before
returns-in-Fixed-before t c = writes_as (sym (rows_turned _ _ _ _ _ _ c.if-j-eq0.false c.info-i.ensures c.in-Bound.is c.info-before.ensures c.in-Fixed-before.is)) (writes_then c.put-in-Bound.ensures.bytes (writes_then (writes_as c.one-in-Fixed-before.ensures c.put-in-Fixed-before.ensures.bytes) c.put-in-Fixed-before-2.ensures.bytes))

pub returns-in-Bound-before : goal.returns-in-Bound-before
returns-in-Bound-before t c = writes_as (sym (rows_open _ _ _ _ c.if-j-eq0.false c.info-before.ensures c.in-Bound-before.is)) (writes_then c.put-in-Bound.ensures.bytes (writes_then c.write.ensures (writes_as c.one-in-Bound-before.ensures c.put-in-Bound-before.ensures.bytes)))
