-- `store::table_spans` meets its contract.
-- Assumes nothing.
use Prim.Native.Nat.{◌≤◌}
use mathlib.Core.Path.{◌≡◌, sym, ◌∙◌}
use native.Mathlib.Omega.{arith}
use Rattle.word.specs.Record.{kind_at}
use Rattle.store.proofs.Arrays.{spanned_begin, spanned_short, spanned_here, spanned_out, spanned_over, spanned_all}
use Rattle.store.proofs.places.table_spans.Goals.{then-kind-eq1, then-tables-lt32, else-tables-lt32, else-kind-eq1}
use Rattle.store.proofs.places.table_spans.Goals as goal

pub loop-i-init : goal.loop-i-init
loop-i-init c = (omega arith, spanned_begin c.args.cat.now c.args.n c.args.store.now)

pub overflow_cast-spans : goal.overflow_cast-spans
overflow_cast-spans c =
    let short : c.loop-i.at ≤ 65528 = spanned_short c.args.cat.now c.args.n c.args.store.now c.loop-i.i c.loop-i.tables c.loop-i.at c.loop-i.spans c.loop-i.invariant.1 c.loop-i-test.true c.requires.1 in
    record { fits = omega arith }

pub loop-i-preserved : goal.loop-i-preserved
loop-i-preserved c =
    let kind : c.kind.result ≡ kind_at c.args.cat.now c.loop-i.i = c.kind.ensures in
    let further = c.place_after-at.ensures.0 in (
      c.place_after-at.ensures.1,
      elim c.if-kind-eq1.branch [
        | then-kind-eq1 w ↦
            elim w.if-tables-lt32.branch [
              | then-tables-lt32 v ↦ spanned_here c.args.cat.now c.args.n c.args.store.now c.loop-i.i c.loop-i.tables c.loop-i.at c.loop-i.spans c.loop-i.invariant.1 further (sym kind ∙ w.if-kind-eq1.true) v.if-tables-lt32.true v.half.result v.row_size.result v.half.ensures v.row_size.ensures.0 (w.spans-is ∙ v.spans-is) w.tables-is
              | else-tables-lt32 v ↦ spanned_out c.args.cat.now c.args.n c.args.store.now c.loop-i.i c.loop-i.tables c.loop-i.at c.loop-i.spans c.loop-i.invariant.1 further (sym kind ∙ w.if-kind-eq1.true) v.if-tables-lt32.false (w.spans-is ∙ v.spans-is) w.tables-is
            ]
        | else-kind-eq1 w ↦ spanned_over c.args.cat.now c.args.n c.args.store.now c.loop-i.i c.loop-i.tables c.loop-i.at c.loop-i.spans c.loop-i.invariant.1 further (λ e. w.if-kind-eq1.false (kind ∙ e)) w.spans-is w.tables-is
      ],
    )

pub returns : goal.returns
returns c = spanned_all c.args.cat.now c.args.n c.args.store.now c.loop-i.i c.loop-i.tables c.loop-i.at c.loop-i.spans c.loop-i-test.false c.loop-i.auto.i-end c.loop-i.invariant.1
