-- `store::Layout::check_cells` meets its contract: a cell that keeps its rule is passed over.
-- Assumes nothing.
use Prim.Native.Nat.{◌+◌, ◌-◌}
use mathlib.Core.Path.{◌≡◌, ◌∙◌, sym}
use mathlib.Core.Bool.{true}
use native.Mathlib.Omega.{arith}
use Rattle.word.specs.Record.{kind_at}
use Rattle.store.specs.Layout.{cell_place, cell_rule}
use Rattle.store.proofs.Laws.{cells, cells_more}
use Rattle.store.proofs.Layout.check_cells.Goals as goal

pub loop-k-preserved : goal.loop-k-preserved
loop-k-preserved c =
    let kind : kind_at c.args.self.now.cat.now c.loop-k.k ≡ 2 = sym c.kind.ensures ∙ c.if-kind-ne2.false in
    let rule : cell_rule c.args.self.now.cat.now c.loop-k.k c.args.self.now.store.now (cell_place c.args.at (c.loop-k.k - c.args.i)) ≡ true = rw (← c.cell_place-place.ensures) (sym c.cell_rule.ensures ∙ c.if-not-cell_rule.false) in
    (grind (arith, cells), c.loop-k.invariant.1 ∙ cells_more c.args.self.now.cat.now c.args.self.now.store.now c.args.self.now.n c.loop-k.k c.args.at (c.loop-k.k - c.args.i) (c.loop-k.k + 1 - c.args.i) c.loop-k-test.true kind rule (omega arith))
