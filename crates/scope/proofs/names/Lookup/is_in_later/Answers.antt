-- `scope::names::Lookup::is_in_later` meets its contract. The invariant: no table that was passed has the name.
-- Assumes nothing.
use native.Mathlib.Omega.{arith}
use Rattle.scope.proofs.Search.{tabs_begin, tabs_again, any_yes, any_no, table_is}
use Rattle.scope.proofs.names.Lookup.is_in_later.Goals as goal

pub loop-j-init : goal.loop-j-init
loop-j-init c = tabs_begin _ _ _ _ _ _ _

pub returns-in_default : goal.returns-in_default
returns-in_default c = any_yes _ _ _ _ _ _ _ _ c.loop-j.invariant _ _ (omega arith) (table_is _ _ _ c.from.ensures) c.in_table.ensures c.in_default.not-None

pub loop-j-preserved : goal.loop-j-preserved
loop-j-preserved c = tabs_again _ _ _ _ _ _ _ _ c.loop-j.invariant _ _ (omega arith) (table_is _ _ _ c.from.ensures) c.in_table.ensures c.in-None.is

pub returns : goal.returns
returns c = any_no _ _ _ _ _ _ _ _ c.loop-j.invariant (omega arith)
