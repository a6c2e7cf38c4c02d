-- `run::scopes::cell_class` meets its contract.
-- Assumes nothing.
use Rattle.run.proofs.Scoping.{cells}
use Rattle.run.proofs.scopes.cell_class.Goals as goal

pub cell_class-requires : goal.cell_class-requires
cell_class-requires c = search cells

pub returns-then-k-b_in : goal.returns-then-k-b_in
returns-then-k-b_in c = search cells

pub returns : goal.returns
returns c = search cells
