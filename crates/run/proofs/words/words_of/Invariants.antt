-- `run::words::words_of` meets its contract: the words below i are filled in; what is left falls.
-- Assumes nothing.
use Prim.Native.Nat.{◌-◌}
use Rattle.run.proofs.Records.{Begun}
use Rattle.run.proofs.words.words_of.Given as goal

abbrev pub invariant-loop-i : goal.invariant-loop-i
invariant-loop-i l = Begun l.code l.n l.ends l.lays l.words l.i
