-- What `said` says of an answer it says of no other: each reason has a number of its own.
-- Assumes nothing.
use Prim.Native.Nat.{ℕ}
use mathlib.Core.Path.{◌≡◌, refl, sym, ap, ◌∙◌}
use mathlib.Core.Bool.{cond}
use native.Mathlib.Omega.{arith}
use lib.Dec.{eqb}
use Rattle.std.specs.Prelude.{Result, Ok, Err}
use Rattle.word.specs.Refusal.{number_of, Checked, fine, refusal, said}
use Rattle.word.specs.declared.refusal.Reason.{Reason}
use Rattle.word.specs.declared.refusal.Reason.TheVariants as reason
use Rattle.word.specs.declared.refusal.Refusal.{Refusal}

-- the reason of a number
abbrev reason_of : ℕ → Reason
reason_of n =
    cond (eqb n 1) reason.ViewHeader
    (cond (eqb n 2) reason.ViewLength
    (cond (eqb n 3) reason.FieldOutOfRule
    (cond (eqb n 4) reason.WrongPlace
    (cond (eqb n 5) reason.TooDeep
    (cond (eqb n 6) reason.NoTable
    (cond (eqb n 7) reason.NoColumn
    (cond (eqb n 8) reason.Ambiguous
    (cond (eqb n 9) reason.WrongType
    (cond (eqb n 10) reason.TreeTooLarge
    (cond (eqb n 21) reason.CatalogueHeader
    (cond (eqb n 22) reason.CatalogueLength
    (cond (eqb n 23) reason.CatalogueRule
    (cond (eqb n 24) reason.NameUsed
    (cond (eqb n 31) reason.StoreHeader
    (cond (eqb n 32) reason.StoreLength
    (cond (eqb n 33) reason.StoreRule
    reason.AnswerTooLarge))))))))))))))))

number_again : (r : Reason) → reason_of (number_of r) ≡ r
number_again reason.ViewHeader = refl
number_again reason.ViewLength = refl
number_again reason.FieldOutOfRule = refl
number_again reason.WrongPlace = refl
number_again reason.TooDeep = refl
number_again reason.NoTable = refl
number_again reason.NoColumn = refl
number_again reason.Ambiguous = refl
number_again reason.WrongType = refl
number_again reason.TreeTooLarge = refl
number_again reason.CatalogueHeader = refl
number_again reason.CatalogueLength = refl
number_again reason.CatalogueRule = refl
number_again reason.NameUsed = refl
number_again reason.StoreHeader = refl
number_again reason.StoreLength = refl
number_again reason.StoreRule = refl
number_again reason.AnswerTooLarge = refl

same_refusal : {a b : Reason} {p q : ℕ} → a ≡ b → p ≡ q → ◌≡◌ {A = Refusal} (record { reason = a; place = p }) (record { reason = b; place = q })
same_refusal e f = rw (e, f)

pub said_same : {A : Type 0} (x y : Result A Refusal) → said x ≡ said y → x ≡ y
said_same (Ok a) (Ok b) e = let p : a ≡ b = cc in rw p
said_same (Ok a) (Err s) e = absurd (let z : ◌≡◌ {A = ℕ} 0 1 = cc in omega arith)
said_same (Err r) (Ok b) e = absurd (let z : ◌≡◌ {A = ℕ} 0 1 = cc in omega arith)
said_same (Err r) (Err s) e =
    let n : number_of r.reason ≡ number_of s.reason = cc in
    let p : r.place ≡ s.place = cc in
    ap Err (same_refusal (sym (number_again r.reason) ∙ ap reason_of n ∙ number_again s.reason) p)
