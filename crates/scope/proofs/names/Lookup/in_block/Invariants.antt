-- `scope::names::Lookup::in_block` meets its contract. The invariant: no table that was passed has the name.
-- Assumes nothing.
use Prim.Native.Nat.{min}
use Rattle.scope.specs.declared.Scope.TheVariants as S
use Rattle.scope.proofs.Search.{Passed}
use Rattle.scope.proofs.names.Lookup.in_block.Given as goal

abbrev pub invariant-loop-j : goal.invariant-loop-j
invariant-loop-j l = Passed l.self.cat.now l.self.n (S.Block l.block) (min l.block.count 4) l.self.name l.self.qualifier 0 l.j
