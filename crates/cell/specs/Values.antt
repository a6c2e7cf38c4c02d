-- Values: what null, booleans, fixed, times, intervals and classes are at run time, and when one is of a type.
-- Assumes nothing.
use Rattle.std.specs.Prelude.{ℕ, ◌^◌, Bool, true, false, cond, ◌&&◌, ltb, leb, ℤ, pos, nat_abs}
use Rattle.std.proofs.Math.Bool.{So}
use Rattle.std.specs.Int.Signed.{mag}
use Rattle.cell.specs.Res.{Res, stuck, done}
use Rattle.cell.specs.Types.{digits_rule}
use Rattle.cell.specs.declared.Type.{«Type» as Ty}
use Rattle.cell.specs.declared.Type.TheVariants as T
use Rattle.cell.specs.declared.Value.{Value}
use Rattle.cell.specs.declared.Value.TheVariants.{Null, Truth, Fixed, Time, Interval, Class}

-- |m| is below 10^p
abbrev pub digits : ℕ → ℤ → Bool
digits p m = ltb (nat_abs m) (10 ^ p)

-- m is one of 32 signed bits (mag is n both for n and for -(n + 1))
abbrev pub word32 : ℤ → Bool
word32 m = ltb (mag m) 2147483648

-- a value is null or of a type. A fixed value carries its scale
pub data HasTy : Ty → Value → Type 0 where
  ok_null : {t : Ty} → HasTy t Null
  ok_truth : {b : Bool} → HasTy T.Boolean (Truth b)
  ok_fixed : {p s : ℕ} {m : ℤ} → So (digits_rule p s && digits p m) → HasTy (T.Fixed p s) (Fixed s m)
  ok_time : {f : ℕ} {m : ℤ} → So (word32 m) → HasTy (T.Time f) (Time m)
  ok_interval : {f : ℕ} {m : ℤ} → So (word32 m) → HasTy (T.Interval f) (Interval m)
  ok_class : {c : ℕ} → So (ltb c 65536) → HasTy T.Class (Class c)

unfoldable pub is_null : Value → Bool
is_null Null = true
is_null _ = false

-- a value taken as one kind: stuck at a wrong kind, and at null. A fixed value whose scale is above 4 is of a wrong kind too
unfoldable pub as_truth : Value → Res Bool
as_truth (Truth b) = done b
as_truth _ = stuck

unfoldable pub as_fixed : Value → Res (ℕ × ℤ)
as_fixed (Fixed s m) = cond (leb s 4) (done (s, m)) stuck
as_fixed _ = stuck

unfoldable pub as_time : Value → Res ℤ
as_time (Time m) = done m
as_time _ = stuck

unfoldable pub as_interval : Value → Res ℤ
as_interval (Interval m) = done m
as_interval _ = stuck

unfoldable pub as_class : Value → Res ℕ
as_class (Class c) = done c
as_class _ = stuck

-- the number of a value's kind, as types have it: 0 null; 6 is none of them
unfoldable pub kind_v : Value → ℕ
kind_v Null = 0
kind_v (Truth b) = 1
kind_v (Fixed s m) = cond (leb s 4) 2 6
kind_v (Time m) = 3
kind_v (Interval m) = 4
kind_v (Class c) = 5

-- the signed number that a value holds: 0 for null, 1 or 0 for true and false
unfoldable pub number_in : Value → ℤ
number_in Null = pos 0
number_in (Truth b) = cond b (pos 1) (pos 0)
number_in (Fixed s m) = m
number_in (Time m) = m
number_in (Interval m) = m
number_in (Class c) = pos c
