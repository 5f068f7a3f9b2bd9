-- The board that lent units, availability and frozen flags make. Assumes nothing.
use Rattle.std.specs.Prelude.{◌≡◌, Bool, cond, ◌&&◌, List, ℕ, ltb, Option, Some, None, Result, Ok, Err}
use Rattle.units.specs.Units.{unit_start, unit_end}
use Rattle.units.specs.Domains.{able, clear, unit_frozen}
use Rattle.rota.specs.Board.{Board, board_with}
use Rattle.rota.specs.Ready.{fits_by, frozen_by}

-- a known person is available for every slot of a unit
unfoldable pub fits_unit : ℕ → ℕ → ℕ → List ℕ → List ℕ → ℕ → ℕ → Bool
fits_unit people slots units avail begins p u =
    ltb u units && (ltb p people && able avail (unit_start begins u) (unit_end slots units begins u) p)

-- some slot of a unit is frozen
unfoldable pub frozen_unit : ℕ → ℕ → List ℕ → List ℕ → ℕ → Bool
frozen_unit slots units begins frozen u = ltb u units && unit_frozen frozen slots units begins u

abbrev pub board_of : ℕ → ℕ → ℕ → List ℕ → List ℕ → List ℕ → Board
board_of people slots units avail begins frozen =
    board_with people slots units begins (fits_unit people slots units avail begins) (frozen_unit slots units begins frozen)

-- ---- what is worked out once a call

-- the mark of a unit from slot a up to e
unfoldable pub mark_of : List ℕ → ℕ → ℕ → ℕ
mark_of frozen a e = cond (clear frozen a e) 0 1

-- the same by a search for a frozen slot of it
abbrev pub mark_found : Result (Option ℕ) ℕ → ℕ
mark_found (Ok (Some i)) = 1
mark_found (Ok None) = 0
mark_found (Err n) = 1

-- the masks and the marks are those of the definitions
pub record FitsRight (people slots units : ℕ) (avail begins fits : List ℕ) : Type 0 where
  pub each : (p u : ℕ) → fits_by fits p u ≡ fits_unit people slots units avail begins p u

pub record FrozenRight (slots units : ℕ) (begins frozen flags : List ℕ) : Type 0 where
  pub each : (u : ℕ) → frozen_by flags u ≡ frozen_unit slots units begins frozen u
