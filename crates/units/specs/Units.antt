-- Units (and rotations): a count, and a column of starts. A unit goes from its start up to the next one's. Assumes nothing.
use Rattle.std.specs.Prelude.{Bool, ◌&&◌, cond, List, ℕ, zero, suc, ◌+◌, ◌≤◌, ◌<◌, eqb, ltb, leb, length, get_or}
use Rattle.paper.specs.Count.{all}

-- the first slot of unit u
abbrev pub unit_start : List ℕ → ℕ → ℕ
unit_start begins u = get_or begins u 0

-- one past the last slot of unit u: the next unit's start, or the slot count
unfoldable pub unit_end : ℕ → ℕ → List ℕ → ℕ → ℕ
unit_end slots units begins u = cond (ltb (u + 1) units) (unit_start begins (u + 1)) slots

-- rule 9: starts begin at 0 and rise strictly ..
abbrev pub start_rises : List ℕ → ℕ → Bool
start_rises begins zero = eqb (unit_start begins 0) 0
start_rises begins (suc v) = ltb (unit_start begins v) (unit_start begins (suc v))

-- .. and stay below the slot count
unfoldable pub start_ok : ℕ → List ℕ → ℕ → Bool
start_ok slots begins u = start_rises begins u && ltb (unit_start begins u) slots

-- at least one unit, room for its starts, and rule 9 of each. More units than slots can't all start below the slot count
unfoldable pub units_ok : ℕ → ℕ → List ℕ → Bool
units_ok slots units begins = leb 1 units && (leb units (length begins) && all units (start_ok slots begins))

-- slot k is one of unit u's
pub record InUnit (slots units : ℕ) (begins : List ℕ) (k u : ℕ) : Type 0 where
  pub known : u < units
  pub from : unit_start begins u ≤ k
  pub to : k < unit_end slots units begins u

-- the unit of slot k: of the first `units` units the last that starts at or before it
unfoldable pub unit_of : ℕ → List ℕ → ℕ → ℕ
unit_of zero begins k = 0
unit_of (suc n) begins k = cond (leb (unit_start begins n) k) n (unit_of n begins k)
