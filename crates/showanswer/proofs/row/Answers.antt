-- `showanswer::row` meets its contract: a gap and a cell more.
-- Assumes nothing.
use Rattle.std.proofs.Common.{◌+◌, length, length-append, ap, ◌∙◌}
use Rattle.std.specs.Io.KnownBytes.{Appends}
use Rattle.showanswer.specs.Shown.{gap}
use Rattle.showanswer.proofs.Laws.{left_further, gap_some, gap_none, cell_further}
use Rattle.showanswer.proofs.row.Goals as goal
use Rattle.showanswer.proofs.row.Goals.{then-j-gt0+in_ok-write_all, else-j-gt0}

pub loop-j-preserved : goal.loop-j-preserved
loop-j-preserved g c =
    let step = c.in-Some.ensures.steps in
    let (left, chunk) = left_further c.loop-j.j-iterator.iter c.next.new.self.iter c.args.cells.now 8 (length c.loop-j.yielded) c.loop-j.invariant.left c.in-Some.cell step.0 in
    let before : Appends (g.W.Write.contents c.loop-j.to) (g.W.Write.contents c.if-j-gt0.to) (gap c.in-Some.j) = elim c.if-j-gt0.branch [
      | then-j-gt0+in_ok-write_all w ↦ gap_some _ _ _ w.if-j-gt0.true (rw w.to-is w.in_ok-write_all.ensures.bytes)
      | else-j-gt0 w ↦ rw w.to-is (gap_none _ _ w.if-j-gt0.false)
    ] in
    rw length-append
    (record {
      left = left;
      count = step.2 ∙ ap (λ k. k + 1) c.loop-j.invariant.count;
      written = cell_further _ _ _ _ _ _ _ _ c.loop-j.invariant.written before c.in_ok-print_cell.ensures (step.1 ∙ c.loop-j.invariant.count) chunk;
    })
