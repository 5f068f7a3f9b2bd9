-- What private functions of wayback alone cite: owners of units by their starts, and how far the columns are written. Assumes nothing.
use Rattle.std.specs.Prelude.{◌≡◌, Bool, true, false, not, ◌&&◌, ◌||◌, List, map, ℕ, ◌≤◌, eqb, length, get_or, Option, Some, None, Result, Ok, Err}
use Rattle.paper.specs.Limits.{nobody}
use Rattle.paper.specs.Count.{among, count, onto}
use Rattle.units.specs.Units.{unit_start}
use Rattle.units.specs.Domains.{in_mask}
use Rattle.rota.specs.Lent.{frozen_unit}

-- a search found something, or was refused
abbrev pub found_one : Result (Option ℕ) ℕ → Bool
found_one (Ok (Some i)) = true
found_one (Ok None) = false
found_one (Err n) = true

-- the owner of a unit is that of its first slot
abbrev pub unit_owner : List ℕ → List ℕ → ℕ → ℕ
unit_owner begins o u = get_or o (unit_start begins u) 0

-- the owner of unit u differs; and it stands in the way
unfoldable pub changed : List ℕ → List ℕ → List ℕ → ℕ → Bool
changed begins a o u = not (eqb (unit_owner begins a u) (unit_owner begins o u))

unfoldable pub stands_in_way : ℕ → ℕ → List ℕ → List ℕ → List ℕ → List ℕ → ℕ → Bool
stands_in_way slots units begins frozen a o u =
    changed begins a o u && (eqb (unit_owner begins a u) nobody || frozen_unit slots units begins frozen u)

-- the place of unit u's owner, by the masks
unfoldable pub place_by : List ℕ → List ℕ → List ℕ → ℕ → ℕ
place_by begins fits a u = count (unit_owner begins a u) (in_mask (get_or fits u 0))

-- each of the first units has a start, a mask, and room for its draw
pub record WriteRoom (units : ℕ) (fits ks fs ss : List ℕ) : Type 0 where
  pub few : units ≤ 1024
  pub masks : units ≤ length fits
  pub draws : units ≤ length ks
  pub firsts : units ≤ length fs
  pub seconds : units ≤ length ss

-- of the units below u, the n whose owner differs have their draws written
pub record Wrote (begins fits a o : List ℕ) (u n : ℕ) (ks fs ss ks' fs' ss' : List ℕ) : Type 0 where
  pub number : n ≡ length (among (changed begins a o) u)
  pub draws : ks' ≡ onto (map (λ _. 0) (among (changed begins a o) u)) ks
  pub firsts : fs' ≡ onto (among (changed begins a o) u) fs
  pub seconds : ss' ≡ onto (map (place_by begins fits a) (among (changed begins a o) u)) ss
