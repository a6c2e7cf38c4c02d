-- `run::scopes::local` meets its contract.
-- Assumes nothing.
use Rattle.run.proofs.Scoping.{locals}
use Rattle.run.proofs.scopes.local.Goals as goal

pub returns-then-w-lt9223372036854775808 : goal.returns-then-w-lt9223372036854775808
returns-then-w-lt9223372036854775808 c = search locals

pub returns : goal.returns
returns c = search locals
