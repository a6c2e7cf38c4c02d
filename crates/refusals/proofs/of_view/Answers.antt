-- `refusals::of_view` is safe: an accepted catalogue and a taken view are what the check of names and types requires.
-- Assumes nothing.
use mathlib.Core.Path.{◌∙◌}
use Rattle.catalogue.proofs.Meaning.{taken_header, taken_records, taken_few}
use Rattle.refusals.proofs.Laws.{may_resolve}
use Rattle.refusals.proofs.of_view.Goals as goal

pub u16_at-requires : goal.u16_at-requires
u16_at-requires c = taken_header _ _ _ c.check.ensures c.in_ok-tables.was

pub starts-starts-requires : goal.starts-starts-requires
starts-starts-requires c = let count = c.from-nc.ensures ∙ c.u16_at.ensures in (taken_records _ _ _ c.check.ensures c.in_ok-tables.was _ count, taken_few _ _ _ c.check.ensures c.in_ok-tables.was _ count)

pub whole-requires : goal.whole-requires
whole-requires c =
    may_resolve _ _ _ _ _ _ _ _ _ c.check.ensures c.in_ok-tables.was c.check-2.ensures c.in_ok-n.was (c.from-nc.ensures ∙ c.u16_at.ensures) c.starts-starts.ensures
