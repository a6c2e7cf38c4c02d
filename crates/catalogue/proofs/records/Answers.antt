-- `catalogue::records` meets its contract.
-- Assumes nothing.
use native.Mathlib.Omega.{arith}
use mathlib.Core.Path.{refl}
use Rattle.word.specs.Record.{rec_at}
use Rattle.catalogue.proofs.Laws.{lows, sees_begin, sees_more}
use Rattle.catalogue.proofs.records.Goals as goal

pub loop-i-init : goal.loop-i-init
loop-i-init c = (sees_begin c.args.cat.now, grind (arith, lows))

pub loop-i-preserved : goal.loop-i-preserved
unfolding rec_at
loop-i-preserved c =
    (sees_more c.args.cat.now c.loop-i.i c.record_at.result.kind c.record_at.result.a c.loop-i.seen c.after-seen.result (rw c.record_at.ensures refl) (rw c.record_at.ensures refl) c.loop-i.invariant.0 c.after-seen.ensures.tables c.after-seen.ensures.columns c.after-seen.ensures.highest_table c.after-seen.ensures.highest_column, grind (arith, lows))
