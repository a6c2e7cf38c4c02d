-- `scope::entry::open_block` meets its contract. The invariant: the whole answer is the answer of what is left, with the tables found so far.
-- Assumes nothing.
use native.Mathlib.Omega.{arith}
use Rattle.scope.proofs.Opening.{opens, open_missing, open_again}
use Rattle.scope.proofs.entry.open_block.Goals as goal

pub loop-j-init : goal.loop-j-init
loop-j-init c = search opens

pub returns-in_default : goal.returns-in_default
returns-in_default c = open_missing _ _ _ _ _ _ _ _ _ _ c.loop-j.invariant.1 (omega arith) _ c.table_number.ensures.found c.in_default.is

pub loop-j-preserved : goal.loop-j-preserved
loop-j-preserved c = (omega arith, open_again _ _ _ _ _ _ _ _ _ _ c.loop-j.invariant.1 (omega arith) _ c.table_number.ensures.found _ c.in-Some.is)

pub returns : goal.returns
returns c = search opens
