-- The syntax tree of a view, names as written, and what a parser answers. Every node keeps the number of its record, its place.
-- Assumes nothing.
use Rattle.std.specs.Prelude.{ℕ, ◌≡◌, List, [], ◌∷◌}
use Rattle.cell.specs.declared.Type.{«Type» as Ty}
use Rattle.cell.specs.declared.Type.TheVariants as T
use Rattle.cell.specs.declared.Value.{Value}
use Rattle.cell.specs.declared.Value.TheVariants as X
use Rattle.view.specs.declared.Fold.{Fold}
use Rattle.view.specs.declared.Pick.{Pick}

-- a TABLE record: its number, and the name
pub record TabName : Type 0 where
  pub at : ℕ
  pub name : ℕ

-- a value; EXISTS and COUNT are of one shape, and so are VALUE, MAX and MIN
pub data Exp : Type 0 where
  const : ℕ → Ty → Value → Exp
  binop : ℕ → ℕ → Exp → Exp → Exp
  neg : ℕ → Exp → Exp
  if : ℕ → Exp → Exp → Exp → Exp
  exists : ℕ → Fold → List TabName → Exp → Exp
  single : ℕ → Pick → List TabName → Exp → Exp → Exp
  col : ℕ → ℕ → ℕ → Exp
  classof : ℕ → ℕ → ℕ → Exp
  letin : ℕ → ℕ → Exp → Exp → Exp

-- what a block holds: its tables, its where, and its values (none for EXISTS and COUNT, one for VALUE, MAX and MIN)
pub record Block : Type 0 where
  pub tables : List TabName
  pub test : Exp
  pub values : List Exp

-- the one value of a block that has one
unfoldable pub first_of : List Exp → Exp
first_of [] = const 0 T.Null X.Null
first_of (e ∷ es) = e

-- what a parser answers: what it read, with the number of the next record; or a refusal, its number and its place
pub data Parsed (A : Type 0) : Type 0 where
  ok : A → ℕ → Parsed A
  refused : ℕ → ℕ → Parsed A

-- go on where the last parser stopped
unfoldable pub and_then : {A B : Type 0} → Parsed A → (A → ℕ → Parsed B) → Parsed B
and_then (ok a next) f = f a next
and_then (refused number place) f = refused number place

-- something was read
pub record WasRead {A : Type 0} (P : Parsed A) : Type 0 where
  pub tree : A
  pub end : ℕ
  pub is : P ≡ ok tree end

-- the number of the next record; 0 where nothing was read
unfoldable pub next_of : {A : Type 0} → Parsed A → ℕ
next_of (ok a next) = next
next_of (refused number place) = 0
