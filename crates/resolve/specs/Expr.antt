-- The resolved expression: references found, types known, the limbs of IF brought to one type.
-- Assumes nothing.
use Rattle.std.specs.Prelude.{ℕ, List}
use Rattle.class.specs.declared.Info.{Info}
use Rattle.cell.specs.declared.Type.{«Type» as Ty}
use Rattle.cell.specs.declared.Value.{Value}
use Rattle.catalogue.specs.Tables.{TabRef}
use Rattle.view.specs.declared.Fold.{Fold}
use Rattle.view.specs.declared.Pick.{Pick}

pub data Expr : Type 0 where
  const : Ty → Value → Expr
  -- scopes outward, table in block, column; what is known of the cell's class, or of the row's
  col : ℕ → ℕ → ℕ → Info → Expr
  classof : ℕ → ℕ → ℕ → Info → Expr
  -- scopes outward
  local : ℕ → Expr
  -- op, and the digits of its result where that is fixed
  bin : ℕ → ℕ → Expr → Expr → Expr
  neg : Expr → Expr
  -- to p digits at scale s
  conv : ℕ → ℕ → Expr → Expr
  if : Expr → Expr → Expr → Expr
  letin : Expr → Expr → Expr
  -- EXISTS or COUNT; VALUE, MAX or MIN
  exists : Fold → List TabRef → Expr → Expr
  single : Pick → List TabRef → Expr → Expr → Expr

-- SELECT: its tables, its where, its values
pub record Select : Type 0 where
  pub from : List TabRef
  pub test : Expr
  pub values : List Expr
