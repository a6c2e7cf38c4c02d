-- Powers of ten.
-- Assumes nothing.
use Prim.Native.Nat.{ℕ, zero, suc, ◌^◌, ◌≤◌, ◌<◌}
use native.Mathlib.Nat.{pow-suc, pow-le-pow_right, mul-le-mul}
use native.Mathlib.Omega.{arith}
use lib.IntN.{ℤ, pos, nat_abs, ◌*ℤ◌}
use mir.Syntax.{w32, w64}
use mir.Val.{SFits}
use mir.Facts.{to_z-of_z}
use Rattle.cell.proofs.Signed.{abs_mul, abs_fits, fits_abs, mul_fits, quot_fits}

pub ten_pos : (n : ℕ) → 0 < 10 ^ n
ten_pos zero = omega arith
ten_pos (suc n) = omega (arith, pow-suc 10 n, ten_pos n)

pub ten_le : (n : ℕ) → n < 10 → 10 ^ n ≤ 1000000000
ten_le n h = let l : n ≤ 9 = omega arith in pow-le-pow_right {n = 10} (omega arith) l

-- a number of 32 bits times a power of ten
pub scaled_bound : (m : ℤ) (k : ℕ) → nat_abs m ≤ 2 ^ 31 → k < 10 → nat_abs (m *ℤ pos (10 ^ k)) ≤ 2 ^ 61
scaled_bound m k p h = omega (arith, abs_mul m (pos (10 ^ k)), mul-le-mul p (ten_le k h))

pub scaled_fits : (m : ℤ) (k : ℕ) → SFits w32 m → k < 10 → SFits w64 (m *ℤ pos (10 ^ k))
scaled_fits m k f h = fits_abs (omega (arith, scaled_bound m k (abs_fits f) h))

-- what the functions on signed numbers are proved with
pub ruleset tens = (ten_pos, ten_le, scaled_bound, scaled_fits, mul_fits, quot_fits, abs_fits, to_z-of_z)
