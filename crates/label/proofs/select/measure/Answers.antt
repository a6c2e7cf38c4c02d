-- `select::measure` meets its contract: the root of an accepted view is SELECT; its tables' tests and what the view's sums say come to its tree's size.
-- Assumes nothing.
use native.Mathlib.Omega.{arith}
use mathlib.Core.Path.{sym, ◌∙◌}
use Rattle.label.proofs.Roots.{root_there, root_long, some_tables, few_tables, root_tabled, entry, size_counted}
use Rattle.label.proofs.select.measure.Goals as goal

pub node_at-requires : goal.node_at-requires
node_at-requires c = root_long _ _ _ _ c.requires.viewed

pub returns-in_default : goal.returns-in_default
returns-in_default c = let h = c.node_at.ensures ∙ (root_there _ _ _ _ c.requires.viewed).2 in absurd (c.in_default.not-Select _ _ h)

pub block_scope-s-requires : goal.block_scope-s-requires
block_scope-s-requires c = record { tabled = root_tabled _ _ _ _ c.requires.viewed _ _ (sym c.node_at.ensures ∙ c.in-Select.is); some = some_tables _ _ _ _ c.requires.viewed _ _ (sym c.node_at.ensures ∙ c.in-Select.is) }

pub tests_size-a-requires : goal.tests_size-a-requires
tests_size-a-requires c = let w = c.requires.viewed in let g = sym c.node_at.ensures ∙ c.in-Select.is in (w.given.cat_long, (entry _ _ _ _ w _ _ g _ c.block_scope-s.ensures).among, (let h = few_tables _ _ _ _ w _ _ g in omega arith))

pub returns : goal.returns
returns c = size_counted _ _ _ _ c.requires.viewed _ _ (sym c.node_at.ensures ∙ c.in-Select.is) _ c.block_scope-s.ensures _ _ _ _ _ _ _ _ _ c.requires.sums_value c.tests_size-a.ensures c.bound.ensures c.test_size-b.ensures c.plus.ensures c.plus-2.ensures c.plus-3.ensures c.plus-4.ensures
