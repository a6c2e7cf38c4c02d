-- `run::scopes::row_word` meets its contract.
-- Assumes nothing.
use borrow.Author.Rules.{rules}
use Rattle.run.proofs.Scoping.{slots}
use Rattle.run.proofs.scopes.row_word.Statement.{statement}
use Rattle.run.proofs.scopes.row_word.Tie as tie

pub row_word_spec : {M : Type 1} → statement M
row_word_spec = tie.close (tie.spec (λ c κs. search rules) (λ c. search slots) (λ c. search slots))
