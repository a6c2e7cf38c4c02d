-- `resolve::select::values` meets its contract: what is left of the values comes to what all come to.
-- Assumes nothing.
use Prim.Native.Nat.{◌-◌}
use Rattle.resolve.proofs.NotedRoots.{Onward, Ending}
use Rattle.resolve.proofs.Roots.{Left}
use mathlib.Core.Path.{◌≡◌}
use Rattle.resolve.proofs.select.values.Given as goal

abbrev pub invariant-loop-j : goal.invariant-loop-j
invariant-loop-j l = Left l.source.cat.now l.source.starts.now l.source.view.now l.source.files l.initial.held l.count l.at l.j l.next l.pairs × Onward l.source.cat.now l.source.view.now l.source.files l.initial.held l.count l.at l.j l.next l.initial.notes l.notes × Ending l.source.cat.now l.source.view.now l.source.files l.initial.held l.count l.at l.j l.next l.initial.ends l.ends × (l.held ≡ l.initial.held)

abbrev pub decreases-loop-j : goal.decreases-loop-j
decreases-loop-j l = l.count - l.j
