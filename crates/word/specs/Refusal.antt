-- Refusals: the number of each reason, an answer that may be a refusal, and what a function's answer says.
-- Assumes nothing.
use Rattle.std.specs.Prelude.{ℕ, Result, Ok, Err}
use Rattle.word.specs.declared.refusal.Reason.{Reason}
use Rattle.word.specs.declared.refusal.Reason.TheVariants as reason
use Rattle.word.specs.declared.refusal.Refusal.{Refusal}

-- the number of a reason
abbrev pub number_of : Reason → ℕ
number_of reason.ViewHeader = 1
number_of reason.ViewLength = 2
number_of reason.FieldOutOfRule = 3
number_of reason.WrongPlace = 4
number_of reason.TooDeep = 5
number_of reason.NoTable = 6
number_of reason.NoColumn = 7
number_of reason.Ambiguous = 8
number_of reason.WrongType = 9
number_of reason.TreeTooLarge = 10
number_of reason.CatalogueHeader = 21
number_of reason.CatalogueLength = 22
number_of reason.CatalogueRule = 23
number_of reason.NameUsed = 24
number_of reason.StoreHeader = 31
number_of reason.StoreLength = 32
number_of reason.StoreRule = 33
number_of reason.AnswerTooLarge = 41

-- an answer that may be refused, with a number and a place
pub data Checked (A : Type 0) : Type 0 where
  fine : A → Checked A
  refusal : ℕ → ℕ → Checked A

-- an answer, and what is done with it; a refusal stays
abbrev pub and_then : {A B : Type 0} → Checked A → (A → Checked B) → Checked B
and_then (fine a) f = f a
and_then (refusal number place) f = refusal number place

-- what a function's answer says
abbrev pub said : {A : Type 0} → Result A Refusal → Checked A
said (Ok a) = fine a
said (Err r) = refusal (number_of r.reason) r.place
