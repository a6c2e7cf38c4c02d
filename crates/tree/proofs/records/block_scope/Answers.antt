-- `tree::records::block_scope` meets its contract: the entry of tables that are there is no refusal.
-- Assumes nothing.
use mathlib.Core.Path.{ap}
use Rattle.resolve.specs.Claims.{or_no_table}
use Rattle.tree.proofs.Leaves.{opened_there}
use Rattle.tree.proofs.records.block_scope.Goals as goal

pub open_block-requires : goal.open_block-requires
open_block-requires c = record { n_in_bounds = c.requires.tabled.cat_long; starts_are = c.requires.tabled.starts; count_in_bounds = c.requires.tabled.view_long; count_bound = c.requires.tabled.few }

pub returns-in_default : goal.returns-in_default
returns-in_default c = absurd (opened_there _ _ _ _ _ _ _ c.requires.tabled c.in_default.ensures)

pub returns : goal.returns
returns c = ap or_no_table c.in-Ok.ensures
