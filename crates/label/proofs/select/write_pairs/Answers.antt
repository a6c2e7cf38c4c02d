-- `select::write_pairs` meets its contract: the data of a value, then its class.
-- Assumes nothing.
use borrow.Author.Rules.{rules}
use Prim.Native.Nat.{◌-◌}
use mathlib.Core.Path.{◌≡◌}
use native.Mathlib.Omega.{arith}
use Rattle.label.proofs.Left.{left_known, pair_there, pair_left, pair_noting, pair_asks, class_asks, pairs_again, pairs_done}
use Rattle.tree.proofs.Writers.{rests_begin}
use Rattle.label.proofs.select.write_pairs.Goals as goal

pub loop-j-init : goal.loop-j-init
loop-j-init c = let z : c.args.count - 0 ≡ c.args.count = omega arith in rw z (record { there = c.requires.accepts; left = c.requires.left_all; rests = rests_begin c.requires.room })

pub offset_bounds-ends-j : goal.offset_bounds-ends-j
offset_bounds-ends-j c = let h = (pair_left _ _ _ _ _ _ _ _ _ _ c.loop-j.invariant (let h = c.loop-j-test.true in omega arith)).ends_long in search rules

pub bounds-ends-j : goal.bounds-ends-j
bounds-ends-j c = let h = (pair_left _ _ _ _ _ _ _ _ _ _ c.loop-j.invariant (let h = c.loop-j-test.true in omega arith)).ends_long in search rules

pub write_noted-requires : goal.write_noted-requires
write_noted-requires c = record { noting = pair_noting _ _ _ _ _ _ _ _ _ _ c.loop-j.invariant (let h = c.loop-j-test.true in omega arith) c.end_in-next.ensures; room = pair_asks _ _ _ _ _ _ _ _ _ _ c.loop-j.invariant (let h = c.loop-j-test.true in omega arith) c.end_in-next.ensures }

pub write_known-requires : goal.write_known-requires
write_known-requires c =
    rw (c.requires.root.0, c.requires.root.1)
    (record { accepted = pair_there _ _ _ _ _ _ _ _ _ _ c.loop-j.invariant (let h = c.loop-j-test.true in omega arith); known = left_known _ _ _ _ _ _ _ _ (pair_left _ _ _ _ _ _ _ _ _ _ c.loop-j.invariant (let h = c.loop-j-test.true in omega arith)) c.known_in.ensures; room = class_asks _ _ _ _ _ _ _ _ _ _ c.loop-j.invariant (let h = c.loop-j-test.true in omega arith) c.end_in-next.ensures c.write_noted.ensures })

pub loop-j-preserved : goal.loop-j-preserved
loop-j-preserved c = pairs_again _ _ _ _ _ _ _ _ _ _ c.loop-j.invariant (let h = c.loop-j-test.true in omega arith) c.end_in-next.ensures c.write_noted.ensures (rw (c.requires.root.0, c.requires.root.1) at c.write_known.ensures) (omega arith) (omega arith)

pub returns : goal.returns
returns c = pairs_done _ _ _ _ _ _ _ _ _ _ c.loop-j.invariant (let h = c.loop-j-test.false in omega arith)
