-- `run::scopes::leaf` meets its contract.
-- Assumes nothing.
use Rattle.run.proofs.Scoping.{leaves}
use Rattle.run.proofs.scopes.leaf.Goals as goal

pub data-requires : goal.data-requires
data-requires c = search leaves

pub cell_class-requires : goal.cell_class-requires
cell_class-requires c = search leaves

pub row_class-requires : goal.row_class-requires
row_class-requires c = search leaves

pub returns-in-17 : goal.returns-in-17
returns-in-17 c = search leaves

pub returns-in-18 : goal.returns-in-18
returns-in-18 c = search leaves

pub returns-in-19 : goal.returns-in-19
returns-in-19 c = search leaves

pub returns-in-20 : goal.returns-in-20
returns-in-20 c = search leaves

pub returns-in-21 : goal.returns-in-21
returns-in-21 c = search leaves

pub returns-in_default : goal.returns-in_default
returns-in_default c = search leaves
