-- `cases::load` meets its contract.
-- Assumes nothing.
use borrow.Author.Rules.{rules}
use Rattle.cases.proofs.Laws.{came, part_long, front_long}
use Rattle.cases.proofs.load.Goals as goal

pub slice_bounds-read_full-end-then-n-buf : goal.slice_bounds-read_full-end-then-n-buf
slice_bounds-read_full-end-then-n-buf c = search (part_long, rules)

pub returns-then-n-buf : goal.returns-then-n-buf
returns-then-n-buf c = search (came, front_long, rules)
