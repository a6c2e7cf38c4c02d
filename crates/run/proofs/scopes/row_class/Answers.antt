-- `run::scopes::row_class` meets its contract.
-- Assumes nothing.
use Rattle.run.proofs.Scoping.{row_classes}
use Rattle.run.proofs.scopes.row_class.Goals as goal

pub returns-then-w-eq0 : goal.returns-then-w-eq0
returns-then-w-eq0 c = search row_classes

pub row_class-requires : goal.row_class-requires
row_class-requires c = search row_classes

pub returns : goal.returns
returns c = search row_classes
