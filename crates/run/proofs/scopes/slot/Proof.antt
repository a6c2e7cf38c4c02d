-- `run::scopes::slot` meets its contract.
-- Assumes nothing.
use borrow.Author.Rules.{rules}
use Rattle.run.proofs.Scoping.{slots}
use Rattle.run.proofs.scopes.slot.Statement.{statement}
use Rattle.run.proofs.scopes.slot.Tie as tie

pub slot_spec : {M : Type 1} → statement M
slot_spec =
    tie.close
    (tie.spec
    (λ c. search rules)
    (λ c. search rules)
    (λ c. search rules)
    (λ c. search rules)
    (λ c. search rules)
    (λ c. search rules)
    (λ c. search slots)
    (λ c. search slots)
    (λ c. search slots))
