-- `catalogue::start_at` meets its contract.
-- Assumes nothing.
use borrow.Author.Rules.{rules}
use Rattle.catalogue.proofs.Places.{start_fits}
use Rattle.catalogue.proofs.lookup.start_at.Goals as goal

pub returns : goal.returns
returns c = search (start_fits, rules)
