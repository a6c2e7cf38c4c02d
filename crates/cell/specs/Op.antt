-- The operators' numbers.
-- Assumes nothing.
use Rattle.std.specs.Prelude.{ℕ, ◌≡◌, ◌<◌, ◌⊎◌, Result, MatchResult}
use Rattle.cell.specs.declared.op.Op.{Op}
use Rattle.cell.specs.declared.op.Op.TheVariants.{Plus, Minus, Times, Divide, And, Or, Less, LessOrEqual, Equal, NotEqual, GreaterOrEqual, Greater}
use Rattle.cell.specs.declared.op.NoOp.{NoOp}

-- the number of an operator
abbrev pub number_of : Op → ℕ
number_of Plus = 1
number_of Minus = 2
number_of Times = 3
number_of Divide = 4
number_of And = 5
number_of Or = 6
number_of Less = 7
number_of LessOrEqual = 8
number_of Equal = 9
number_of NotEqual = 10
number_of GreaterOrEqual = 11
number_of Greater = 12

-- the operator of a number, or the number where it is none's
abbrev pub Names : ℕ → Result Op NoOp → Type 0
Names number r = MatchResult r (λ op. number_of op ≡ number) (λ e. (e.0 ≡ number) × ((number ≡ 0) ⊎ (12 < number)))
