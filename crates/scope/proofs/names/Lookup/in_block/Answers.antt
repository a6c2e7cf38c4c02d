-- `scope::names::Lookup::in_block` meets its contract: a table that has no match, the first that has, a later one that has one too.
-- Assumes nothing.
use native.Mathlib.Omega.{arith}
use Rattle.scope.proofs.Search.{tabs_begin, tabs_again, block_none, block_one, block_two, block_several, table_is}
use Rattle.scope.proofs.names.Lookup.in_block.Goals as goal

pub loop-j-init : goal.loop-j-init
loop-j-init c = tabs_begin _ _ _ _ _ _ _

pub returns-then-is_in_later : goal.returns-then-is_in_later
returns-then-is_in_later c = block_two _ _ _ _ _ _ _ _ c.loop-j.invariant _ _ (omega arith) (table_is _ _ _ c.from-t.ensures) c.in_table.ensures _ c.in-One.is _ c.is_in_later.ensures c.if-is_in_later.true

pub returns-in-One : goal.returns-in-One
returns-in-One c = block_one _ _ _ _ _ _ _ _ c.loop-j.invariant _ _ (omega arith) (table_is _ _ _ c.from-t.ensures) c.in_table.ensures _ c.in-One.is _ c.is_in_later.ensures _ c.if-is_in_later.false c.column_at.ensures

pub returns-in-Several : goal.returns-in-Several
returns-in-Several c = block_several _ _ _ _ _ _ _ _ c.loop-j.invariant _ _ (omega arith) (table_is _ _ _ c.from-t.ensures) c.in_table.ensures c.in-Several.is

pub loop-j-preserved : goal.loop-j-preserved
loop-j-preserved c = tabs_again _ _ _ _ _ _ _ _ c.loop-j.invariant _ _ (omega arith) (table_is _ _ _ c.from-t.ensures) c.in_table.ensures c.in-None.is

pub returns : goal.returns
returns c = block_none _ _ _ _ _ _ _ _ c.loop-j.invariant (omega arith)
