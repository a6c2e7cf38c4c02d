-- `scope::entry::open_block` meets its contract. The invariant: the whole answer is the answer of what is left, with the tables found so far.
-- Assumes nothing.
use Rattle.scope.proofs.Opening.{open_from, tabs_left}
use Prim.Native.Nat.{◌≤◌}
use mathlib.Core.Path.{◌≡◌}
use Rattle.catalogue.specs.Tables.{tables_from}
use Rattle.view.specs.Parse.{names_at}
use Rattle.scope.specs.Blocks.{tables_named}
use Rattle.scope.specs.Entry.{opened_by}
use Rattle.scope.proofs.entry.open_block.Given as goal

abbrev pub invariant-loop-j : goal.invariant-loop-j
invariant-loop-j l = (l.j ≤ l.count) × (opened_by l.starts (tables_named (tables_from l.cat l.n l.n 0) (names_at l.view l.at l.count)) ≡ open_from l.starts l.places l.j (tabs_left l.cat l.n l.starts l.tables l.view l.at l.count l.j))
