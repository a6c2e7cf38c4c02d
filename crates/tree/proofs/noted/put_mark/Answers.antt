-- `tree::noted::put_mark` meets its contract: no record where the byte is 0, CONV where not.
-- Assumes nothing.
use Rattle.tree.proofs.Noting.{marks}
use Rattle.tree.proofs.noted.put_mark.Goals as goal

pub returns-then-m-eq0 : goal.returns-then-m-eq0
returns-then-m-eq0 c = search marks

pub put-requires : goal.put-requires
put-requires c = search marks

pub returns : goal.returns
returns c = search marks
