-- `view::fixed_rule` meets its contract: at most 9 digits are in rule.
-- Assumes nothing.
use borrow.Author.Rules.{rules}
use Rattle.view.proofs.Nodes.{rule_few}
use Rattle.view.proofs.fixed_rule.Goals as goal

pub pow-requires : goal.pow-requires
pow-requires c = search (rule_few, rules)
