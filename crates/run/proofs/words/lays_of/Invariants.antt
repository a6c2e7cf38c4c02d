-- `run::words::lays_of` meets its contract: the words below j are filled in; what is left falls.
-- Assumes nothing.
use Prim.Native.Nat.{◌-◌, ◌≤◌}
use Rattle.run.proofs.Lays.{Laid}
use Rattle.run.proofs.words.lays_of.Given as goal

abbrev pub invariant-loop-j : goal.invariant-loop-j
invariant-loop-j l = Laid l.cat l.store l.lays l.j × (l.tables ≤ 32)
