-- The pattern that a buffer is filled with, and the digest of a buffer: its bytes, after a 1, as one number in base 256
-- (highest byte first) modulo the prime 2^55 - 55. Assumes nothing.
use Rattle.std.specs.Prelude.{ℕ, zero, suc, ◌+◌, ◌*◌, ◌%◌, List, [], ◌∷◌, ◌++◌, fold}

-- one byte further
abbrev pub digest_step : ℕ → ℕ → ℕ
digest_step h b = (256 * h + b) % 36028797018963913

unfoldable pub digest_of : List ℕ → ℕ
digest_of s = fold digest_step 1 s

-- n bytes, each its place modulo 251
unfoldable pub pattern : ℕ → List ℕ
pattern zero = []
pattern (suc n) = pattern n ++ (n % 251 ∷ [])
