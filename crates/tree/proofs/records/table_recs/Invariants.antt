-- `tree::records::table_recs` meets its contract. The invariant: what is left of the records comes to all of them.
-- Assumes nothing.
use lib.ListN.{drop}
use Rattle.tree.specs.Tree.{table_recs}
use Rattle.tree.specs.Trans.{nums}
use Rattle.tree.specs.Claims.{refs_at}
use Rattle.tree.proofs.Writers.{Rests}
use Rattle.tree.proofs.records.table_recs.Given as goal

abbrev pub invariant-loop-j : goal.invariant-loop-j
invariant-loop-j l =
    Rests (table_recs (nums (drop l.j (refs_at l.source.cat.now l.source.files.nc l.source.view.now l.at l.count)))) l.writer
    (table_recs (nums (refs_at l.source.cat.now l.source.files.nc l.source.view.now l.at l.count))) l.initial.writer
