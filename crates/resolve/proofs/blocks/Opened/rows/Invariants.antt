-- `resolve::blocks::Opened::rows` meets its contract: what is joined so far, and the rows that are left, come to all.
-- Assumes nothing.
use Prim.Native.Nat.{◌-◌}
use Rattle.scope.specs.Table.{open_of}
use Rattle.scope.specs.Entry.{tables_in}
use Rattle.resolve.proofs.Tables.{Joined}
use Rattle.resolve.proofs.blocks.Opened.rows.Given as goal

abbrev pub invariant-loop-j : goal.invariant-loop-j
invariant-loop-j l = Joined (tables_in (open_of l.self.cat.now l.self.nc l.self.own)) l.joined l.j

abbrev pub decreases-loop-j : goal.decreases-loop-j
decreases-loop-j l = l.m - l.j
