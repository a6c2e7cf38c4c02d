-- `catalogue::find_table` meets its contract.
-- Assumes nothing.
use Prim.Native.Nat.{ℕ}
use mathlib.Core.Path.{◌≡◌}
use borrow.Author.Rules.{rules}
use borrow.Author.Tests.{tests}
use lib.ListN.{get_or}
use Rattle.std.proofs.lemmas.Iterator.{first_from_Range}
use Rattle.word.specs.Record.{rec_at, a_at}
use Rattle.catalogue.proofs.Places.{find_first}
use Rattle.catalogue.proofs.lookup.find_table.Goals as goal

pub returns-clause-found : goal.returns-clause-found
unfolding rec_at
returns-clause-found c =
    let has = λ (j : ℕ). a_at c.args.cat.now (get_or c.args.starts.now j 0) ≡ c.args.name in
    find_first c.args.cat.now c.args.n c.args.name c.args.tables c.args.starts.now c.requires.starts_are c.find.result
    (first_from_Range _ _ _ _ has (λ j. has j → ⊥) c.find.ensures.ran (λ x q k. search (rules, tests)) (λ x q k. search (rules, tests)))
