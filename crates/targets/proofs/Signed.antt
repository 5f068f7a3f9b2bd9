-- The size of a difference of two unsigned numbers. Assumes nothing.
use Rattle.std.proofs.Common.{ℕ, zero, suc, ◌+◌, ◌-◌, ◌≤◌, Bool, true, false, cond, ltb, pos, negsuc, ◌-ℤ◌, arith}
use lib.Signed.{mag}

-- a - b is at most a + b in size
pub mag-sub : (a b : ℕ) → mag (pos a -ℤ pos b) ≤ a + b
mag-sub a zero = omega arith
mag-sub a (suc b) = go (ltb a (suc b))
  where
    go : (t : Bool) → mag (cond t (negsuc (suc b - suc a)) (pos (a - suc b))) ≤ a + suc b
    go true = omega arith
    go false = omega arith
