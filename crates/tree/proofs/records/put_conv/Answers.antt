-- `tree::records::put_conv` meets its contract: no record where the types are equal, CONV where not.
-- Assumes nothing.
use mathlib.Core.Path.{sym, ◌∙◌}
use Rattle.cell.proofs.Equal.{same_eq}
use Rattle.tree.proofs.Leaves.{conv_same, conv_room, conv_other}
use Rattle.tree.proofs.records.put_conv.Goals as goal

pub returns-then-eq : goal.returns-then-eq
returns-then-eq c = conv_same _ _ (c.eq.ensures ∙ sym (same_eq _ _)) c.if-eq.true

pub put-requires : goal.put-requires
put-requires c = conv_room _ _ (c.eq.ensures ∙ sym (same_eq _ _)) c.if-eq.false c.requires.room

pub returns : goal.returns
returns c = conv_other _ _ (c.eq.ensures ∙ sym (same_eq _ _)) c.if-eq.false c.digits.ensures c.scale.ensures c.put.ensures.bytes
