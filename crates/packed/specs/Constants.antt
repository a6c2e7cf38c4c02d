-- What the record of a constant says, by its fields, and what is a constant of a type.
-- Assumes nothing.
use Rattle.std.specs.Prelude.{ℕ, ◌+◌, ◌*◌, ◌%◌, ◌≡◌, cond, eqb}
use Rattle.word.specs.Bytes.{signed32}
use Rattle.cell.specs.Res.{Res, stuck, done}
use Rattle.cell.specs.Types.{kind_of}
use Rattle.cell.specs.Values.{HasTy, is_null}
use Rattle.cell.specs.declared.Type.{«Type» as Ty}
use Rattle.cell.specs.declared.Value.{Value}
use Rattle.cell.specs.declared.Value.TheVariants.{Null, Truth, Fixed, Time, Interval, Class}

-- 1 NULL, 2 BOOL op 0/1, 3 FIXED op 16p+s, 4 TIME, 5 INTERVAL (3, 4, 5: signed value, low half b, high half c), 6 CLASS a; else stuck
unfoldable pub const_meaning : ℕ → ℕ → ℕ → ℕ → ℕ → Res Value
const_meaning kind op a b c =
    cond (eqb kind 1) (done Null)
    (cond (eqb kind 2) (done (Truth (eqb op 1)))
    (cond (eqb kind 3) (done (Fixed (op % 16) (signed32 (b + 65536 * c))))
    (cond (eqb kind 4) (done (Time (signed32 (b + 65536 * c))))
    (cond (eqb kind 5) (done (Interval (signed32 (b + 65536 * c))))
    (cond (eqb kind 6) (done (Class a))
    stuck)))))

-- a constant is of its type, and null only where its type is
pub record Constant (t : Ty) (v : Value) : Type 0 where
  pub typed : HasTy t v
  pub null_is : is_null v ≡ eqb (kind_of t) 0
