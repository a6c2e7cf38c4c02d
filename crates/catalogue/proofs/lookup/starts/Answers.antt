-- `catalogue::starts` meets its contract.
-- Assumes nothing.
use mathlib.Core.Path.{◌≡◌, ◌∙◌, refl, sym}
use Rattle.word.specs.Record.{rec_at, kind_at}
use Rattle.catalogue.proofs.Places.{fills, filled_here, filled_out, filled_over}
use Rattle.catalogue.proofs.lookup.starts.Goals.{then-record_at-eq1, then-tables-lt32, else-tables-lt32, else-record_at-eq1}
use Rattle.catalogue.proofs.lookup.starts.Goals as goal

pub loop-i-preserved : goal.loop-i-preserved
unfolding rec_at
loop-i-preserved c =
    let before = c.loop-i.invariant in
    let kind : c.record_at.result.kind ≡ kind_at c.args.cat.now c.loop-i.i = rw c.record_at.ensures refl in
    let less = c.loop-i-test.true in
    elim c.if-record_at-eq1.branch [
      | then-record_at-eq1 w ↦
          elim w.if-tables-lt32.branch [
            | then-tables-lt32 v ↦ filled_here c.args.cat.now c.args.n c.loop-i.slots c.loop-i.tables c.loop-i.i (sym kind ∙ w.if-record_at-eq1.true) v.if-tables-lt32.true less (w.slots-is ∙ v.slots-is) w.tables-is before
            | else-tables-lt32 v ↦ filled_out c.args.cat.now c.args.n c.loop-i.slots c.loop-i.tables c.loop-i.i (sym kind ∙ w.if-record_at-eq1.true) v.if-tables-lt32.false less (w.slots-is ∙ v.slots-is) w.tables-is before
          ]
      | else-record_at-eq1 w ↦ filled_over c.args.cat.now c.args.n c.loop-i.slots c.loop-i.tables c.loop-i.i (λ e. w.if-record_at-eq1.false (kind ∙ e)) less w.slots-is w.tables-is before
    ]

pub returns : goal.returns
returns c = search fills
