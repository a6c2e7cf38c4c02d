-- `showanswer::rows` meets its contract: a row more, until no row more is wanted or none is left.
-- Assumes nothing.
use Rattle.std.proofs.Common.{◌≡◌, ◌<◌, ◌*◌, max, drop, length, length-append, arith, ap, ◌∙◌}
use Rattle.std.specs.Slice.Iter.{chunks_exact_rest, chunks_exact_size}
use Rattle.std.proofs.KnownBytes.{Appends-nil}
use Rattle.showanswer.proofs.Laws.{left_start, left_further, row_further, rows_done, past_header}
use Rattle.showanswer.specs.Shown.{row_lines}
use Rattle.showanswer.proofs.rows.Goals as goal

pub loop-cells-init : goal.loop-cells-init
unfolding row_lines
loop-cells-init g c =
    let rest : chunks_exact_rest c.into_iter-cells-iterator.result.iter ≡ drop 8 c.args.out.now = rw (c.into_iter-cells-iterator.ensures.into_iter_gives, c.take-cells-items.ensures.source) (c.chunks_exact.ensures.rest ∙ c.in-Some.ensures.lookup.0.2 ∙ past_header c.args.out.now) in
    let size : chunks_exact_size c.into_iter-cells-iterator.result.iter ≡ 8 * max c.args.columns 1 = rw (c.into_iter-cells-iterator.ensures.into_iter_gives, c.take-cells-items.ensures.source) (c.chunks_exact.ensures.size ∙ ap (λ k. 8 * k) (c.from.ensures ∙ c.max.ensures)) in
    record { left = left_start _ _ _ rest size; count = rw c.into_iter-cells-iterator.ensures.into_iter_gives (omega (arith, c.take-cells-items.ensures.count)); written = Appends-nil _ }

pub loop-cells-preserved : goal.loop-cells-preserved
loop-cells-preserved g c =
    let step = c.in-Some-cells.ensures.steps in
    let (left, chunk) = left_further c.loop-cells.cells-iterator.iter c.next.new.self.iter (drop 8 c.args.out.now) (8 * max c.args.columns 1) (length c.loop-cells.yielded) c.loop-cells.invariant.left c.in-Some-cells.cells step.0 in
    rw length-append
    (record {
      left = left;
      count = omega (arith, step.1, c.loop-cells.invariant.count);
      written = row_further _ _ _ _ _ _ _ c.loop-cells.invariant.written c.in_ok-row.ensures chunk;
    })

pub returns : goal.returns
returns g c =
    let some : 0 < 8 * max c.args.columns 1 = omega arith in
    let done = rows_done c.loop-cells.cells-iterator.iter c.next.new.self.iter (drop 8 c.args.out.now) (8 * max c.args.columns 1) (length c.loop-cells.yielded) c.loop-cells.cells-iterator.n c.args.count some c.loop-cells.invariant.left c.loop-cells.invariant.count c.in-None.ensures.steps in
    rw (← done) c.loop-cells.invariant.written
