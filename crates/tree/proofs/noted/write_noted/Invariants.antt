-- `tree::noted::write_noted` meets its contract. The invariant: what is left of the records comes to all of them.
-- Assumes nothing.
use Rattle.tree.specs.Noted.{noted_bytes, notes_in}
use Rattle.tree.proofs.Writers.{Rests}
use Rattle.tree.proofs.noted.write_noted.Given as goal

abbrev pub invariant-loop-i : goal.invariant-loop-i
invariant-loop-i l = Rests (noted_bytes l.view (notes_in l.notes l.i l.end) l.i) l.writer (noted_bytes l.view (notes_in l.notes l.at l.end) l.at) l.initial.writer
