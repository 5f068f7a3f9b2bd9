-- Numbers in bytes, lowest byte first. Assumes nothing.
use Rattle.std.specs.Prelude.{◌&&◌, cond, List, [], ◌∷◌, ℕ, zero, suc, ◌+◌, ◌*◌, ◌/◌, ◌%◌, ◌<◌, leb, length, get_or}

-- the number in the n bytes of s from `at` on
unfoldable pub le : ℕ → List ℕ → ℕ → ℕ
le zero s at = 0
le (suc n) s at = get_or s at 0 + 256 * le n s (suc at)

-- the same of at most eight bytes that all stand in s, else 0
unfoldable pub field_at : ℕ → List ℕ → ℕ → ℕ
field_at n s at = cond (leb n 8 && leb (at + n) (length s)) (le n s at) 0

-- the n bytes of a number
unfoldable pub le_bytes : ℕ → ℕ → List ℕ
le_bytes zero v = []
le_bytes (suc n) v = v % 256 ∷ le_bytes n (v / 256)

-- a list of bytes: no entry is above 255
abbrev pub Bytes : List ℕ → Type 0
Bytes s = (k : ℕ) → get_or s k 0 < 256
