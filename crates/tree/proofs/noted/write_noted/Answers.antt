-- `tree::noted::write_noted` meets its contract. The invariant: what is left of the records comes to all of them.
-- Assumes nothing.
use native.Mathlib.Omega.{arith}
use Rattle.tree.proofs.Noting.{rest_room, rest_again, rest_done}
use Rattle.tree.proofs.Writers.{rests_begin}
use Rattle.tree.proofs.noted.write_noted.Goals as goal

pub loop-i-init : goal.loop-i-init
loop-i-init c = rests_begin c.requires.room

pub put_noted-requires : goal.put_noted-requires
put_noted-requires c = record {
  i_in_bounds = omega (arith, c.requires.noting.view_long, c.loop-i-test.true);
  stands = c.requires.noting.each _ c.loop-i.auto.i c.loop-i-test.true;
  room = rest_room _ _ _ _ c.requires.noting c.loop-i.invariant c.loop-i-test.true;
}

pub loop-i-preserved : goal.loop-i-preserved
loop-i-preserved c = rest_again _ _ _ _ c.requires.noting c.loop-i.invariant c.loop-i-test.true c.put_noted.ensures

pub returns : goal.returns
returns c = rest_done _ _ _ _ c.requires.noting c.loop-i.invariant c.loop-i-test.false
