-- `select::write_tests` meets its contract. The invariant: the tests of the tables that are left come to all of them.
-- Assumes nothing.
use Prim.Native.Nat.{◌-◌}
use Rattle.tree.proofs.Writers.{Rests}
use Rattle.label.specs.Rows.{rows_in}
use Rattle.label.specs.Whole.{test_bytes, classes_in}
use Rattle.label.proofs.select.write_tests.Given as goal

abbrev pub invariant-loop-j : goal.invariant-loop-j
invariant-loop-j l =
    Rests (test_bytes l.q (classes_in l.cat l.n l.s) (rows_in l.cat l.n l.s) l.j (l.count - l.j)) l.writer
    (test_bytes l.q (classes_in l.cat l.n l.s) (rows_in l.cat l.n l.s) 0 l.count) l.initial.writer
