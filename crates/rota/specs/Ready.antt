-- What a play works out once: for each unit the mask of the people who fit it, and whether it is frozen. Assumes nothing.
use Rattle.std.specs.Prelude.{◌≡◌, Bool, not, ◌&&◌, List, ℕ, ◌≤◌, ◌<◌, eqb, length, get_or}
use Rattle.paper.specs.Count.{all_in}
use Rattle.units.specs.Units.{unit_start, unit_end}
use Rattle.units.specs.Domains.{in_mask}
use Rattle.rota.specs.Board.{Board, board_with}

-- person p stands in the mask of unit u
unfoldable pub fits_by : List ℕ → ℕ → ℕ → Bool
fits_by fits p u = in_mask (get_or fits u 0) p

-- the flag of unit u is set
unfoldable pub frozen_by : List ℕ → ℕ → Bool
frozen_by flags u = eqb (get_or flags u 0) 1

-- the board that these make
abbrev pub ready : ℕ → ℕ → ℕ → List ℕ → List ℕ → List ℕ → Board
ready people slots units begins fits flags = board_with people slots units begins (fits_by fits) (frozen_by flags)

-- each unit has a slot, and none past the slot count
pub record UnitRoom (slots units : ℕ) (begins : List ℕ) : Type 0 where
  pub some : (u : ℕ) → u < units → unit_start begins u < unit_end slots units begins u
  pub within : (u : ℕ) → u < units → unit_end slots units begins u ≤ slots

-- each of the first n units has its start lent, and an owner at that slot
pub record OwnerRoom (n : ℕ) (begins owners : List ℕ) : Type 0 where
  pub starts : n ≤ length begins
  pub owned : (u : ℕ) → u < n → unit_start begins u < length owners

-- mask has those who stand in every mask from unit a up to e
pub record Cover (fits : List ℕ) (a e mask : ℕ) : Type 0 where
  pub each : (p : ℕ) → p < 32 → in_mask mask p ≡ all_in a e (fits_by fits p)

-- no unit from a up to e, nor from c up to g, is frozen, and each of two people fits the units that they would get
unfoldable pub runs_fit : List ℕ → List ℕ → ℕ → ℕ → ℕ → ℕ → ℕ → ℕ → Bool
runs_fit fits flags a e to c g to2 =
    all_in a e (λ u. not (frozen_by flags u)) && (all_in c g (λ u. not (frozen_by flags u))
    && (all_in a e (fits_by fits to) && all_in c g (fits_by fits to2)))
