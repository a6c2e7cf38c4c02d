-- `run::scopes::local_class` meets its contract.
-- Assumes nothing.
use Rattle.run.proofs.Scoping.{locals}
use Rattle.run.proofs.scopes.local_class.Goals as goal

pub returns-then-first-lt9223372036854775808 : goal.returns-then-first-lt9223372036854775808
returns-then-first-lt9223372036854775808 c = search locals

pub returns-then-w-eq0 : goal.returns-then-w-eq0
returns-then-w-eq0 c = search locals

pub returns : goal.returns
returns c = search locals
