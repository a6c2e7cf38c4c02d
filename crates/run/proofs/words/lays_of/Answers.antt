-- `run::words::lays_of` meets its contract: the words below j are filled in; what is left falls.
-- Assumes nothing.
use borrow.Author.Rules.{rules}
use Rattle.run.proofs.Lays.{lays, laid_none, laid_more, laid_all}
use Rattle.run.proofs.words.lays_of.Goals as goal

pub u16_at-requires : goal.u16_at-requires
u16_at-requires c = search lays

pub u16_at-requires-2 : goal.u16_at-requires-2
u16_at-requires-2 c = search lays

pub table_spans-spans-requires : goal.table_spans-spans-requires
table_spans-spans-requires c = (search lays, search lays)

pub starts-starts-requires : goal.starts-starts-requires
starts-starts-requires c = (search lays, search lays)

pub loop-j-init : goal.loop-j-init
loop-j-init c = (laid_none _ _, search lays)

pub loop-j-preserved : goal.loop-j-preserved
loop-j-preserved c = (laid_more _ _ _ (search rules) _ c.loop-j.invariant.0 _ _ c.u16_at-2.ensures c.from-tables.ensures _ _ _ _ _ c.loop-j-test.true c.u16_at.ensures c.from-n.ensures c.table_spans-spans.ensures c.starts-starts.ensures c.lay_of.ensures, search rules)

pub returns : goal.returns
returns c = search (laid_all, rules)
