-- `select::write_pairs` meets its contract. The invariant: what is left of the pairs comes to all of them.
-- Assumes nothing.
use Prim.Native.Nat.{◌+◌, ◌-◌}
use Rattle.label.specs.Whole.{pair_bytes}
use Rattle.label.proofs.Left.{PairsLeft}
use Rattle.label.proofs.select.write_pairs.Given as goal

abbrev pub invariant-loop-j : goal.invariant-loop-j
invariant-loop-j l =
    PairsLeft l.level.source.now.cat.now l.level.source.now.starts.now l.level.source.now.view.now l.level.source.now.files l.level.scopes.now l.notes l.ends (l.count - l.j) (1 + l.j) l.m l.writer
    (pair_bytes l.level.source.now.cat.now l.level.source.now.view.now l.level.source.now.files l.level.scopes.now l.count l.at) l.initial.writer
