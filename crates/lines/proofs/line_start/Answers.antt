-- `lines::line_start` meets its contract.
-- Assumes nothing.
use Rattle.std.proofs.Common.{rules, ◌∙◌, sym}
use Rattle.lines.proofs.Laws.{start_further, start_done}
use Rattle.lines.proofs.line_start.Goals as goal

pub loop-preserved : goal.loop-preserved
loop-preserved c = search (start_further, rules)

pub returns : goal.returns
returns c = record { value = sym (start_done _ _ _ _ c.loop-test.false) ∙ c.loop.invariant.same; inside = c.loop.invariant.inside }
