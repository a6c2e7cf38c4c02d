-- Signed numbers, for proofs of functions that compute with i32 and i64. A bound is said of `nat_abs z`, a ℕ, so that omega reads it.
-- Assumes nothing.
use Prim.Native.Nat.{zero, suc, ◌*◌, ◌/◌, ◌^◌, ◌≤◌, ◌<◌}
use mathlib.Core.Path.{◌≡◌, refl}
use native.Mathlib.Nat.{div-le_self, mul-le-mul, lt_of_le_of_lt, le_refl}
use native.Mathlib.Omega.{arith}
use lib.IntN.{ℤ, pos, negsuc, neg_ℤ, nat_abs, ◌*ℤ◌}
use lib.Signed.{mag, quot_z, nat_abs-le}
use mir.Syntax.{Width, w32, w64}
use mir.Val.{SFits, hbits, to_z, of_z}
use mir.Facts.{to_z-of_z}

pub abs_neg : (z : ℤ) → nat_abs (neg_ℤ z) ≡ nat_abs z
abs_neg (pos zero) = refl
abs_neg (pos (suc n)) = refl
abs_neg (negsuc n) = refl

pub abs_mul : (a b : ℤ) → nat_abs (a *ℤ b) ≡ nat_abs a * nat_abs b
abs_mul (pos a) (pos b) = refl
abs_mul (pos a) (negsuc b) = abs_neg (pos (a * suc b))
abs_mul (negsuc a) (pos b) = abs_neg (pos (suc a * b))
abs_mul (negsuc a) (negsuc b) = refl

pub abs_quot : (a b : ℤ) → nat_abs (quot_z a b) ≡ nat_abs a / nat_abs b
abs_quot (pos a) (pos b) = refl
abs_quot (pos a) (negsuc b) = abs_neg (pos (a / suc b))
abs_quot (negsuc a) (pos b) = abs_neg (pos (suc a / b))
abs_quot (negsuc a) (negsuc b) = refl

pub mag_abs : (z : ℤ) → mag z ≤ nat_abs z
mag_abs (pos n) = le_refl n
mag_abs (negsuc n) = omega arith

pub fits_abs : {w : Width} {z : ℤ} → nat_abs z < 2 ^ hbits w → SFits w z
fits_abs {w} {z} h = record { sfits = lt_of_le_of_lt (mag_abs z) h }

pub abs_fits : {w : Width} {z : ℤ} → SFits w z → nat_abs z ≤ 2 ^ hbits w
abs_fits {w} {z} f = nat_abs-le z f.sfits

-- the product of two numbers of 32 bits has at most 62
pub product_bound : (a b : ℤ) → nat_abs a ≤ 2 ^ 31 → nat_abs b ≤ 2 ^ 31 → nat_abs (a *ℤ b) ≤ 2 ^ 62
product_bound a b p q = rw (abs_mul a b) (mul-le-mul p q)

-- a number read back from its bits, from what a call gives with its result (`.ok`)
pub back32 : (z : ℤ) → mag z < 2 ^ 31 → to_z w32 (of_z w32 z) ≡ z
back32 z h = to_z-of_z {w = w32} (record { sfits = h })

-- two numbers of 32 bits: their product fits 64
pub mul_fits : {a b : ℤ} → SFits w32 a → SFits w32 b → SFits w64 (a *ℤ b)
mul_fits {a} {b} p q = fits_abs (omega (arith, product_bound a b (abs_fits p) (abs_fits q)))

-- and so does a quotient of that product
pub quot_fits : {a b : ℤ} (d : ℤ) → SFits w32 a → SFits w32 b → SFits w64 (quot_z (a *ℤ b) d)
quot_fits {a} {b} d p q =
    fits_abs
    (omega (arith, abs_quot (a *ℤ b) d, div-le_self (nat_abs (a *ℤ b)) (nat_abs d), product_bound a b (abs_fits p) (abs_fits q)))
