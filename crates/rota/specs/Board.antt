-- What a draw looks at besides the owners: the units, who fits them, which are frozen; and runs of units. Assumes nothing.
use Rattle.std.specs.Prelude.{◌≡◌, Bool, true, cond, List, ℕ, zero, suc, ◌-◌, ◌≤◌, ◌<◌, eqb, length, get_or}
use Rattle.paper.specs.Limits.{nobody}
use Rattle.units.specs.Units.{unit_start, unit_end}

pub record Board : Type 0 where
  pub people : ℕ
  pub slots : ℕ
  pub units : ℕ
  -- the first slot of a unit, and one past its last
  pub from : ℕ → ℕ
  pub upto : ℕ → ℕ
  -- fits p u: person p is available for every slot of unit u
  pub fits : ℕ → ℕ → Bool
  -- some slot of the unit is frozen
  pub frozen : ℕ → Bool

-- units by their starts; whoever fits them, and whichever are frozen
abbrev pub board_with : ℕ → ℕ → ℕ → List ℕ → (ℕ → ℕ → Bool) → (ℕ → Bool) → Board
board_with people slots units begins fits frozen =
    record {
      people = people;
      slots = slots;
      units = units;
      from = unit_start begins;
      upto = unit_end slots units begins;
      fits = fits;
      frozen = frozen;
    }

-- what the checks leave known: few people, and units that are stretches in rising order and leave no slot out
pub record BoardSound (B : Board) : Type 0 where
  pub few : B.people ≤ 32
  pub rising : (u : ℕ) → u < B.units → B.from u < B.upto u
  pub apart : (u v : ℕ) → u < v → v < B.units → B.upto u ≤ B.from v
  pub within : (u : ℕ) → u < B.units → B.upto u ≤ B.slots
  pub whole : (k : ℕ) → k < B.slots → (u : ℕ) × (u < B.units) × (B.from u ≤ k) × (k < B.upto u)

-- slot k is one of unit u
pub record InUnit (B : Board) (u k : ℕ) : Type 0 where
  pub below : u < B.units
  pub from : B.from u ≤ k
  pub upto : k < B.upto u

-- the owner of a unit is that of its first slot
unfoldable pub owner_of : Board → List ℕ → ℕ → ℕ
owner_of B o u = get_or o (B.from u) 0

unfoldable pub unowned : Board → List ℕ → ℕ → Bool
unowned B o u = eqb (owner_of B o u) nobody

-- ---- a rota that a play may start from: each unit has one owner, who is nobody or a person who fits it

pub record Even (B : Board) (o : List ℕ) : Type 0 where
  pub room : B.slots ≤ length o
  pub same : (u k : ℕ) → InUnit B u k → get_or o k 0 ≡ owner_of B o u
  pub manned : (u : ℕ) → u < B.units → (owner_of B o u ≡ nobody → ⊥) → (owner_of B o u < B.people) × (B.fits (owner_of B o u) u ≡ true)

-- ---- runs of units, where w u is the owner of unit u

-- the first unit of the run of unit u
unfoldable pub run_start : (ℕ → ℕ) → ℕ → ℕ
run_start w zero = zero
run_start w (suc u) = cond (eqb (w u) (w (suc u))) (run_start w u) (suc u)

-- the last unit of the run that goes on at unit u, with k units after it
unfoldable pub run_to : (ℕ → ℕ) → ℕ → ℕ → ℕ
run_to w zero u = u
run_to w (suc k) u = cond (eqb (w (suc u)) (w u)) (run_to w k (suc u)) u

unfoldable pub run_end : ℕ → (ℕ → ℕ) → ℕ → ℕ
run_end units w u = run_to w (units - 1 - u) u

-- first to last is the whole stretch of units around u with the owner of u: no longer one exists
pub record RunOf (units : ℕ) (w : ℕ → ℕ) (u first last : ℕ) : Type 0 where
  pub from : first ≤ u
  pub to : u ≤ last
  pub fits : last < units
  pub one : (v : ℕ) → first ≤ v → v ≤ last → w v ≡ w u
  pub left : (v : ℕ) → suc v ≡ first → w v ≡ w u → ⊥
  pub right : suc last < units → w (suc last) ≡ w u → ⊥
