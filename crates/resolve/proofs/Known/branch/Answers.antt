-- `resolve::Known::branch` meets its contract.
-- Assumes nothing.
use Rattle.resolve.proofs.Leaves.{if_ruled}
use mathlib.Core.Path.{sym, ◌∙◌}
use Rattle.resolve.proofs.Known.branch.Goals as goal

pub returns : goal.returns
returns c = if_ruled _ _ _ _ _ _ _ _ _ c.ne.ensures c.if-ne.false (sym c.limb.ensures ∙ c.in-Some.is) c.brought.ensures c.brought-2.ensures c.either.ensures
