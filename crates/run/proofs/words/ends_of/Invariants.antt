-- `run::words::ends_of` meets its contract: from record i on the table is filled; i falls.
-- Assumes nothing.
use Rattle.run.proofs.Ends.{Filled}
use Rattle.run.proofs.words.ends_of.Given as goal

abbrev pub invariant-loop-i : goal.invariant-loop-i
invariant-loop-i l = Filled l.code l.n l.ends l.i
