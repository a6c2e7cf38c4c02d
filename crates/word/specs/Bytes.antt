-- Numbers in bytes, lowest byte first. A slice is the list of its bytes; a byte past the end counts as 0.
-- Assumes nothing.
use Rattle.std.specs.Prelude.{ℕ, ◌+◌, ◌-◌, ◌*◌, ◌/◌, ◌%◌, Bool, cond, ◌&&◌, List, [], ◌∷◌, ltb, leb, get_or, ℤ, pos, negsuc}

-- the 16 bits at a place
abbrev pub u16_at : List ℕ → ℕ → ℕ
u16_at b at = get_or b at 0 + 256 * get_or b (at + 1) 0

-- the 32 bits at a place, low half first
abbrev pub u32_at : List ℕ → ℕ → ℕ
u32_at b at = u16_at b at + 65536 * u16_at b (at + 2)

-- 32 bits read as signed: n below 2^31, and n - 2^32 from there on (negsuc k is -(k + 1))
unfoldable pub signed32 : ℕ → ℤ
signed32 n = cond (ltb n 2147483648) (pos n) (negsuc (4294967295 - n))

-- the 32 bits of a signed number
unfoldable pub bits32 : ℤ → ℕ
bits32 (pos n) = n
bits32 (negsuc k) = 4294967295 - k

-- the signed number at a place
unfoldable pub i32_at : List ℕ → ℕ → ℤ
i32_at b at = signed32 (u32_at b at)

-- the bytes of 16 and of 32 bits
unfoldable pub le16 : ℕ → List ℕ
le16 v = v % 256 ∷ v / 256 ∷ []

unfoldable pub le32 : ℕ → List ℕ
le32 v = v % 256 ∷ v / 256 % 256 ∷ v / 65536 % 256 ∷ v / 16777216 ∷ []

-- lo ≤ x ≤ hi
abbrev pub within : ℕ → ℕ → ℕ → Bool
within lo hi x = leb lo x && leb x hi
