-- `tree::noted::plain` meets its contract: one law for each kind whose record changes, and one for those that are copied.
-- Assumes nothing.
use borrow.Author.Rules.{rules}
use Rattle.tree.proofs.Noting.{plain_binop, plain_table, plain_name, plain_classof, plain_let, plain_copied}
use Rattle.tree.proofs.noted.plain.Goals as goal

pub returns-in-7 : goal.returns-in-7
returns-in-7 c = plain_binop _ _ _ c.requires.stands _ c.record_at-given.ensures c.in-7.is

pub returns-in-12 : goal.returns-in-12
returns-in-12 c = plain_table _ _ _ c.requires.stands _ c.record_at-given.ensures c.in-12.is

pub returns-in-14 : goal.returns-in-14
returns-in-14 c = plain_name _ _ _ c.requires.stands _ c.record_at-given.ensures _ c.in-14.is c.name.ensures

pub returns-in-15 : goal.returns-in-15
returns-in-15 c = plain_classof _ _ _ c.requires.stands _ c.record_at-given.ensures c.in-15.is

pub returns-in-16 : goal.returns-in-16
returns-in-16 c = plain_let _ _ _ c.requires.stands _ c.record_at-given.ensures c.in-16.is

pub returns-in_default : goal.returns-in_default
returns-in_default c =
    plain_copied _ _ _ c.requires.stands _ c.record_at-given.ensures (record { op_small = search rules; a_small = search rules; b_small = search rules; c_small = search rules })
    (search rules) (search rules) (search rules) (search rules) (search rules)
