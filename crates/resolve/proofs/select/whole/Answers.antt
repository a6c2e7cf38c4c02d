-- `resolve::select::whole` meets its contract.
-- Assumes nothing.
use Rattle.resolve.proofs.Roots.{whole_select, whole_done, wholes}
use Rattle.resolve.proofs.select.whole.Goals as goal

pub node_at-requires : goal.node_at-requires
node_at-requires c = search wholes

pub returns-in_default : goal.returns-in_default
returns-in_default c = let h = whole_select _ _ _ _ c.requires _ c.node_at.ensures in absurd (c.in_default.not-Select _ _ h)

pub root-requires : goal.root-requires
root-requires c = rw (c.from.ensures, c.from-2.ensures) (search wholes)

pub returns : goal.returns
returns c = let p = whole_done _ _ _ _ c.requires _ c.node_at.ensures _ _ c.in-Select.is _ _ _ _ _ (rw (c.from.ensures, c.from-2.ensures) at c.root.ensures.value) (rw (c.from.ensures, c.from-2.ensures) at c.root.ensures.noted_view) (rw (c.from.ensures, c.from-2.ensures) at c.root.ensures.ended_view) in record { value = p.0; noted_view = p.1.0; ended_view = p.1.1 }
