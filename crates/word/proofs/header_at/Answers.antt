-- `word::header_at` meets its contract: the mark, the version and the count are written one after the other.
-- Assumes nothing.
use Rattle.word.specs.Header.{header}
use Rattle.word.proofs.Writing.{then}
use Rattle.word.proofs.header_at.Goals as goal

pub returns : goal.returns
unfolding header
returns c = then c.put_bytes-version.ensures (then c.put_u16-count.ensures c.put_u16.ensures)
