-- `scope::entry::block_class` meets its contract. The invariant: the lub of the tables from number j on.
-- Assumes nothing.
use Rattle.scope.proofs.Blocks.{lub_left}
use Prim.Native.Nat.{◌≤◌, min}
use mathlib.Core.Path.{◌≡◌}
use Rattle.scope.specs.Entry.{count_in}
use Rattle.scope.proofs.entry.block_class.Given as goal

abbrev pub invariant-loop-number : goal.invariant-loop-number
invariant-loop-number l = (l.number ≤ min (count_in l.scope) 4) × (l.class ≡ lub_left l.cat l.n l.scope l.number)
