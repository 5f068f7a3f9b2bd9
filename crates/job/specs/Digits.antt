-- Reading what the listing writes: decimal digits, and a sign. Assumes nothing.
use Rattle.std.specs.Prelude.{◌≡◌, cond, List, [], ◌∷◌, ℕ, ◌+◌, ◌-◌, ◌*◌, ◌≤◌, ◌<◌, eqb, ℤ, pos, neg_ℤ, length, get_or}

-- the number that digits stand for, where those before them stand for v
unfoldable pub read_from : ℕ → List ℕ → ℕ
read_from v [] = v
read_from v (b ∷ l) = read_from (v * 10 + (b - 48)) l

abbrev pub read_digits : List ℕ → ℕ
read_digits l = read_from 0 l

-- a minus sign, and what it stands before; or digits alone
unfoldable pub read_signed : List ℕ → ℤ
read_signed [] = pos 0
read_signed (b ∷ l) = cond (eqb b 45) (neg_ℤ (pos (read_digits l))) (pos (read_digits (b ∷ l)))

-- decimal digits, at least one, with no 0 before another digit
pub record Decimal (l : List ℕ) : Type 0 where
  pub some : 0 < length l
  pub each : (k : ℕ) → k < length l → (48 ≤ get_or l k 0) × (get_or l k 0 ≤ 57)
  pub lead : 1 < length l → get_or l 0 0 ≡ 48 → ⊥
