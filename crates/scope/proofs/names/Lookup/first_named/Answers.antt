-- `scope::names::Lookup::first_named` meets its contract. The invariant: no column that was passed has the name.
-- Assumes nothing.
use native.Mathlib.Omega.{arith}
use Rattle.scope.proofs.Columns.{columns, kind_read, a_read, named_stop, named_here, named_again}
use Rattle.scope.proofs.names.Lookup.first_named.Goals as goal

pub returns-then-column-ne2 : goal.returns-then-column-ne2
returns-then-column-ne2 c = named_stop _ _ _ _ _ c.loop-j.invariant _ (kind_read _ _ _ c.record_at-column.ensures) c.if-column-ne2.true

pub returns-then-column-self : goal.returns-then-column-self
returns-then-column-self c =
    named_here _ _ _ _ _ c.loop-j.invariant _ (kind_read _ _ _ c.record_at-column.ensures) (omega arith) c.if-column-ne2.false _ (a_read _ _ _ c.record_at-column.ensures) c.if-column-self.true

pub loop-j-preserved : goal.loop-j-preserved
loop-j-preserved c =
    named_again _ _ _ _ _ c.loop-j.invariant _ (kind_read _ _ _ c.record_at-column.ensures) (omega arith) c.if-column-ne2.false _ (a_read _ _ _ c.record_at-column.ensures) c.if-column-self.false

pub returns : goal.returns
returns c = search columns
