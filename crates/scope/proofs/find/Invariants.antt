-- `scope::find` meets its contract: each turn of its loop reads one entry out of the lent slice, the innermost first.
-- Assumes nothing.
use Rattle.std.proofs.Common.{◌≡◌, ◌-◌}
use Rattle.scope.specs.Scopes.{find}
use Rattle.scope.specs.Table.{scopes_of, infos_of, found_of}
use Rattle.scope.proofs.Search.{scopes_left}
use Rattle.scope.proofs.find.Given as goal

abbrev pub invariant-loop-outward : goal.invariant-loop-outward
invariant-loop-outward l =
    found_of (infos_of l.scopes l.depth) (find l.name l.qualifier 0 (scopes_of l.cat l.n l.scopes l.depth)) ≡ scopes_left l.scopes l.cat l.n l.depth l.name l.qualifier l.outward (l.depth - l.outward)
