-- What contracts of private functions cite: what the checks leave known, and what one slot is asked. Assumes nothing.
use Rattle.std.specs.Prelude.{◌≡◌, Bool, true, not, cond, ◌&&◌, ◌||◌, List, ℕ, zero, suc, ◌+◌, ◌-◌, ◌≤◌, ◌<◌, eqb, leb, ltb, get_or, Option, None, Some}
use Rattle.paper.specs.Limits.{nobody}
use Rattle.paper.specs.Count.{all}
use Rattle.units.specs.Units.{unit_start, unit_end, units_ok}
use Rattle.owners.specs.Recount.{first_fail}

-- slot k is in unit u, or just behind it
pub record ByUnit (slots units : ℕ) (begins : List ℕ) (u k : ℕ) : Type 0 where
  pub right : units_ok slots units begins ≡ true
  pub known : u < units
  pub from : unit_start begins u ≤ k
  pub upto : k ≤ unit_end slots units begins u

-- the first number below n that fails, if there is one
unfoldable pub fault : ℕ → (ℕ → Bool) → Option ℕ
fault n p = cond (all n p) None (Some (first_fail n p))

-- slot k opens a shift, by its owner and that of the slot before it alone
unfoldable pub opens_by_owners : List ℕ → ℕ → Bool
opens_by_owners o k = not (eqb (get_or o k 0) nobody) && (eqb k 0 || not (eqb (get_or o (k - 1) 0) (get_or o k 0)))

-- the slot after slot k has its owner
unfoldable pub goes_on : ℕ → List ℕ → ℕ → Bool
goes_on slots o k = ltb (k + 1) slots && eqb (get_or o (k + 1) 0) (get_or o k 0)

-- where the shift of slot k ends, if that of the slot after it ends at `next`
unfoldable pub end_from : ℕ → List ℕ → List ℕ → ℕ → ℕ → ℕ
end_from slots ends o k next = cond (goes_on slots o k) next (get_or ends k 0)

-- from which minute on w may start again, by the slots before k
unfoldable pub free_from : ℕ → List ℕ → List ℕ → ℕ → ℕ → ℕ
free_from rest ends o zero w = 0
free_from rest ends o (suc k) w = cond (eqb (get_or o k 0) w) (get_or ends k 0 + rest) (free_from rest ends o k w)

-- slot k, by where its shift ends, and by from when its owner may start
unfoldable pub capped_by : ℕ → List ℕ → List ℕ → ℕ → ℕ → Bool
capped_by cap starts o k end = cond (opens_by_owners o k) (leb (end - get_or starts k 0) cap) true

unfoldable pub rested_by : List ℕ → List ℕ → ℕ → ℕ → Bool
rested_by starts o k free = cond (opens_by_owners o k) (leb free (get_or starts k 0)) true
