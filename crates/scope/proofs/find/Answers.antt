-- `scope::find` meets its contract: what is left to look in, from here, is what the whole look-up is.
-- Assumes nothing.
use Prim.Native.Nat.{◌-◌, ◌+◌, ◌<◌}
use mathlib.Core.Path.{◌≡◌}
use native.Mathlib.Omega.{arith}
use lib.ListN.{length}
use Rattle.scope.specs.Table.{blank}
use Rattle.scope.proofs.Search.{entry_within}
use Rattle.scope.proofs.Search.{find_begin, find_here, find_again, find_none}
use Rattle.scope.proofs.find.Goals as goal

pub loop-outward-init : goal.loop-outward-init
loop-outward-init c = let e : c.args.depth - 0 ≡ c.args.depth = omega arith in rw e (find_begin c.args.scopes.now c.args.cat.now c.args.n c.args.depth c.args.name c.args.qualifier)

pub returns-in_default : goal.returns-in_default
returns-in_default c =
    let below : c.args.depth - c.loop-outward.outward - 1 < length c.args.scopes.now = omega arith in
    find_here c.args.scopes.now c.args.cat.now c.args.n c.args.depth c.args.name c.args.qualifier c.loop-outward.outward (c.args.depth - c.loop-outward.outward) _ c.loop-outward.invariant _ (omega arith) (omega arith)
    (rw (entry_within c.args.scopes.now (c.args.depth - c.loop-outward.outward - 1) _ blank below) at c.in_scope.ensures) c.in_default.not-None

pub loop-outward-preserved : goal.loop-outward-preserved
loop-outward-preserved c =
    let below : c.args.depth - c.loop-outward.outward - 1 < length c.args.scopes.now = omega arith in
    let e : c.args.depth - (c.loop-outward.outward + 1) ≡ c.args.depth - c.loop-outward.outward - 1 = omega arith in
    rw e (find_again c.args.scopes.now c.args.cat.now c.args.n c.args.depth c.args.name c.args.qualifier c.loop-outward.outward (c.args.depth - c.loop-outward.outward) _ c.loop-outward.invariant _ (omega arith) (omega arith)
    (rw (entry_within c.args.scopes.now (c.args.depth - c.loop-outward.outward - 1) _ blank below) at c.in_scope.ensures) c.in-None.is)

pub returns : goal.returns
returns c = find_none c.args.scopes.now c.args.cat.now c.args.n c.args.depth c.args.name c.args.qualifier c.loop-outward.outward (c.args.depth - c.loop-outward.outward) _ c.loop-outward.invariant (omega arith)
