-- `run::scopes::data` meets its contract.
-- Assumes nothing.
use Rattle.run.proofs.Scoping.{cells}
use Rattle.run.proofs.scopes.data.Goals as goal

pub cell-requires : goal.cell-requires
cell-requires c = search cells

pub returns-then-k-b_in : goal.returns-then-k-b_in
returns-then-k-b_in c = search cells

pub returns : goal.returns
returns c = search cells
