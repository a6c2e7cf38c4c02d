-- `scope::names::Lookup::first_named` meets its contract. The invariant: no column that was passed has the name.
-- Assumes nothing.
use Rattle.scope.proofs.Columns.{Unnamed}
use Rattle.scope.proofs.names.Lookup.first_named.Given as goal

abbrev pub invariant-loop-j : goal.invariant-loop-j
invariant-loop-j l = Unnamed l.self.cat.now l.self.n l.i l.self.name l.j
