-- `filter::tree_of` meets its contract.
-- Assumes nothing.
use mathlib.Core.Path.{refl, ◌∙◌}
use borrow.Author.Rules.{rules}
use Rattle.resolve.proofs.Scoped.{passed}
use native.Mathlib.Omega.{arith}
use Rattle.filter.proofs.Left.{left_view}
use Rattle.filter.proofs.Ways.{cat_header, cat_long, cat_few, cat_view, cat_viewed, sums_are, tree_view, tree_names, tree_fine}
use Rattle.filter.proofs.tree_of.Goals as goal

pub returns-in_err-n : goal.returns-in_err-n
returns-in_err-n c = rw (passed _ _ c.from_residual.ensures.1) (tree_view _ _ _ _ _ c.in_err-n.ensures)

pub u16_at-requires : goal.u16_at-requires
u16_at-requires c = search (cat_header, rules)

pub starts-starts-requires : goal.starts-starts-requires
starts-starts-requires c = search (cat_long, cat_few, rules)

pub whole-requires : goal.whole-requires
whole-requires c = cat_view _ _ c.requires _ _ _ _ (c.from-nc.ensures ∙ c.u16_at.ensures) c.starts-starts.ensures c.in_ok-n.ensures

pub returns-in_err-sums : goal.returns-in_err-sums
returns-in_err-sums c = rw (passed _ _ c.from_residual-in_err-sums.ensures.1) (tree_names _ _ _ _ _ _ _ (c.from-nc.ensures ∙ c.u16_at.ensures) c.in_err-sums.ensures.value)

pub written-requires-clause-viewed : goal.written-requires-clause-viewed
written-requires-clause-viewed c = cat_viewed _ _ c.requires _ _ _ _ (c.from-nc.ensures ∙ c.u16_at.ensures) c.starts-starts.ensures c.in_ok-n.ensures c.in_ok-sums.ensures.value

pub written-requires-clause-left : goal.written-requires-clause-left
written-requires-clause-left c =
    let cat-known = c.type_inv.cat in
    let view-known = c.type_inv.view in
    let k-fits = c.ranges.k in
    left_view _ _ _ _ c.requires (λ i. omega (arith, cat-known i)) (λ i. omega (arith, view-known i)) (omega (arith, k-fits)) _ _ _ _ (omega arith) (omega arith) _ (c.from-nc.ensures ∙ c.u16_at.ensures) c.in_ok-n.ensures c.in_ok-sums.ensures.value
    c.in_ok-sums.ensures.noted_view c.in_ok-sums.ensures.ended_view

pub written-requires-clause-summed : goal.written-requires-clause-summed
written-requires-clause-summed c = search (sums_are, rules)

pub returns : goal.returns
returns c = tree_fine _ _ _ _ _ _ (c.from-nc.ensures ∙ c.u16_at.ensures) refl c.in_ok-sums.ensures.value c.written.ensures
