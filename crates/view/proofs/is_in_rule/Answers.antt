-- `view::is_in_rule` meets its contract at an unknown kind.
-- Assumes nothing.
use native.Mathlib.Omega.{arith}
use Rattle.view.proofs.Rules.{rule_none}
use Rattle.view.proofs.is_in_rule.Goals as goal

pub returns-in_default : goal.returns-in_default
returns-in_default c = rule_none _ (λ a b. omega arith) (λ a b. omega arith)
