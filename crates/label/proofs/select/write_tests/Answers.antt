-- `select::write_tests` meets its contract: table after table, its table class, then its row class.
-- Assumes nothing.
use Prim.Native.Nat.{◌-◌}
use mathlib.Core.Path.{◌≡◌}
use native.Mathlib.Omega.{arith}
use Rattle.tree.proofs.Writers.{fits_as, fits_front, fits_after, rests_begin, rests_as, rests_next, rests_done}
use Rattle.label.proofs.Whole.{tests_none, tests_next}
use Rattle.label.proofs.select.write_tests.Goals as goal

pub loop-j-init : goal.loop-j-init
loop-j-init c = let z : c.args.count - 0 ≡ c.args.count = omega arith in rw z (rests_begin c.requires.room)

pub write_fixed_test-requires : goal.write_fixed_test-requires
write_fixed_test-requires c = fits_front _ (fits_as (tests_next _ _ _ _ _ _ c.loop-j-test.true c.table_class_at.ensures) c.loop-j.invariant.room)

pub write_row_test-requires : goal.write_row_test-requires
write_row_test-requires c = record { among = (c.requires.among.0, c.requires.among.1, (let h = c.requires.among.2 in let l = c.loop-j-test.true in omega arith)); room = fits_front _ (fits_after c.write_fixed_test.ensures (fits_as (tests_next _ _ _ _ _ _ c.loop-j-test.true c.table_class_at.ensures) c.loop-j.invariant.room)) }

pub loop-j-preserved : goal.loop-j-preserved
loop-j-preserved c = rests_next c.write_row_test.ensures (rests_next c.write_fixed_test.ensures (rests_as (tests_next _ _ _ _ _ _ c.loop-j-test.true c.table_class_at.ensures) c.loop-j.invariant))

pub returns : goal.returns
returns c = rests_done (rests_as (tests_none _ _ _ _ _ (let h = c.loop-j-test.false in omega arith)) c.loop-j.invariant)
