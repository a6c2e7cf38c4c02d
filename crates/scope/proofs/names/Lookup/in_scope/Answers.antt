-- `scope::names::Lookup::in_scope` meets its contract: a local, or a block.
-- Assumes nothing.
use Rattle.scope.proofs.Search.{block_whole, local_yes, local_other, local_qualified}
use Rattle.scope.proofs.names.Lookup.in_scope.Goals.{else-self-eq0-via-then-self-eq0+else-local-self, else-self-eq0-via-else-self-eq0}
use Rattle.scope.proofs.names.Lookup.in_scope.Goals as goal

pub returns-in-Block : goal.returns-in-Block
returns-in-Block c = rw c.in-Block.is (block_whole _ _ _ _ _ _ _ c.in_block.ensures)

pub returns-then-local-self : goal.returns-then-local-self
returns-then-local-self c = rw c.in-Local.is (local_yes _ _ _ _ _ _ c.if-self-eq0.true c.if-local-self.true)

pub returns-else-self-eq0 : goal.returns-else-self-eq0
returns-else-self-eq0 c = rw c.in-Local.is (elim c.else-self-eq0.branch [
  | else-self-eq0-via-then-self-eq0+else-local-self w ↦ local_other _ _ _ _ _ _ w.if-self-eq0.true w.if-local-self.false
  | else-self-eq0-via-else-self-eq0 w ↦ local_qualified _ _ _ _ _ _ w.if-self-eq0.false
])
