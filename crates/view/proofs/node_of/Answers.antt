-- `view::node_of` meets its contract at an unknown kind.
-- Assumes nothing.
use native.Mathlib.Omega.{arith}
use Rattle.view.proofs.Rules.{unknown}
use Rattle.view.proofs.node_of.Goals as goal

pub returns-in_default : goal.returns-in_default
returns-in_default c = unknown _ (λ a b. omega arith) (λ a b. omega arith)
