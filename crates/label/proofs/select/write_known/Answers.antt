-- `select::write_known` meets its contract: a CLASS record where the class is fixed, else its tree.
-- Assumes nothing.
use mathlib.Core.Path.{sym}
use Rattle.tree.proofs.Writers.{writes_as, fits_as, fits_record}
use Rattle.label.proofs.Turns.{known_fixed, known_tree}
use Rattle.label.proofs.select.write_known.Goals as goal

pub put-requires : goal.put-requires
put-requires c = fits_record _ _ _ _ _ (fits_as (known_fixed _ c.requires.known c.in-Fixed.is) c.requires.room)

pub returns-in-Fixed : goal.returns-in-Fixed
returns-in-Fixed c = writes_as (sym (known_fixed _ c.requires.known c.in-Fixed.is)) c.put.ensures.bytes

pub write_open-requires : goal.write_open-requires
write_open-requires c = record { accepted = c.requires.accepted; tree = known_tree _ c.requires.known c.in-Bound.is; room = c.requires.room }
