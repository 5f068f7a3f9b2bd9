-- Demand 1: what each test of the tables stands for, in the words of the paper's table of what a caller is answered. Assumes nothing.
use Rattle.std.specs.Prelude.{◌≡◌, true, List, ◌⊎◌, ◌↔◌, ◌≢◌, ℕ, suc, ◌≤◌, ◌<◌, leb, Float, length, get_or}
use Rattle.std.specs.Float.{nan}
use Rattle.std.specs.Float.Ieee.{le}
use Rattle.paper.specs.Limits.{people_ok, slot_count_ok, nobody}
use Rattle.slotset.specs.Answers.{row_slots}
use Rattle.slots.specs.Lent.{slot_room_ok, slots_ok}
use Rattle.slots.specs.Ranges.{Ranges, range_count_ok, range_room_ok, ranges_ok}
use Rattle.units.specs.declared.Settings.{Settings}
use Rattle.units.specs.Settings.{settings_ok}
use Rattle.units.specs.Units.{units_ok}
use Rattle.targets.specs.Figures.{zero_f, whole, all_figures_ok}
use Rattle.owners.specs.Derived.{known_by}
use Rattle.owners.specs.Recount.{available_for}

-- 3 and 9: not "a base slot is empty or reversed, ends after 100,000,000, or starts before the previous one ends"
pub record SlotsRight (slots : ℕ) (starts ends : List ℕ) : Type 0 where
  pub lasts : (k : ℕ) → k < slots → get_or starts k 0 < get_or ends k 0
  pub capped : (k : ℕ) → k < slots → get_or ends k 0 ≤ 100000000
  pub follows : (k : ℕ) → suc k < slots → get_or ends k 0 ≤ get_or starts (suc k) 0

-- 4: not "a range has start above end, end above 100,000,000, or an unknown person"
pub record RangesRight (people : ℕ) (R : Ranges) : Type 0 where
  pub ordered : (k : ℕ) → k < R.count → get_or R.starts k 0 ≤ get_or R.ends k 0
  pub capped : (k : ℕ) → k < R.count → get_or R.ends k 0 ≤ 100000000
  pub known : (k : ℕ) → k < R.count → get_or R.persons k 0 < people

-- 6: not "capacity is not a number, below 0 or above 1,000; or prior minutes are above 100,000,000". No comparison holds of a NaN
pub record FiguresRight (people : ℕ) (capacities : List Float) (priors : List ℕ) : Type 0 where
  pub from-0 : (k : ℕ) → k < people → le zero_f (get_or capacities k nan) ≡ true
  pub to-1000 : (k : ℕ) → k < people → le (get_or capacities k nan) (whole 1000) ≡ true
  pub prior : (k : ℕ) → k < people → get_or priors k 0 ≤ 100000000

-- 7: not "fairness, lock or boundary is not 0 or 1; every-count above 1,024; weekday mask above 127; shift days above 366", and the
-- edition is 0 or 1
pub record SettingsRight (s : Settings) : Type 0 where
  pub fairness : s.fairness ≤ 1
  pub lock : s.lock ≤ 1
  pub edition : s.edition ≤ 1
  pub boundary : ((s.boundary ≡ 0) × (s.value ≤ 1024)) ⊎ ((s.boundary ≡ 1) × (s.value ≤ 127))
  pub days : s.days ≤ 366

-- 9: not "unit starts don't begin at 0, rise strictly and stay below the slot count"; there is one at least
pub record UnitsRight (slots units : ℕ) (begins : List ℕ) : Type 0 where
  pub some : 1 ≤ units
  pub from_zero : get_or begins 0 0 ≡ 0
  pub rises : (u : ℕ) → suc u < units → get_or begins u 0 < get_or begins (suc u) 0
  pub below : (u : ℕ) → u < units → get_or begins u 0 < slots

-- each both ways; 3, 4 and 9 where the columns have room, without which 2 comes first. 10 is RotaByRule's `recount`, 13 JobByRule's `file`
pub record TestsByRule : Type 0 where
  -- 1
  pub people : (n : ℕ) → (people_ok n ≡ true) ↔ ((1 ≤ n) × (n ≤ 32))
  pub slot-count : (n : ℕ) → (slot_count_ok n ≡ true) ↔ ((1 ≤ n) × (n ≤ 1024))
  pub range-count : (n : ℕ) → (range_count_ok n ≡ true) ↔ (n ≤ 1024)
  -- 2
  pub slot-room : (slots : ℕ) (starts ends : List ℕ)
      → (slot_room_ok slots starts ends ≡ true) ↔ ((slots ≤ length starts) × (slots ≤ length ends))
  pub range-room : (R : Ranges)
      → (range_room_ok R ≡ true) ↔ ((R.count ≤ length R.persons) × (R.count ≤ length R.starts) × (R.count ≤ length R.ends))
  pub slots : (slots : ℕ) (starts ends : List ℕ) → slot_room_ok slots starts ends ≡ true
      → (slots_ok slots starts ends ≡ true) ↔ SlotsRight slots starts ends
  pub ranges : (people : ℕ) (R : Ranges) → range_room_ok R ≡ true → (ranges_ok people R ≡ true) ↔ RangesRight people R
  pub figures : (people : ℕ) (capacities : List Float) (priors : List ℕ)
      → (all_figures_ok people capacities priors ≡ true) ↔ FiguresRight people capacities priors
  pub settings : (s : Settings) → (settings_ok s ≡ true) ↔ SettingsRight s
  pub units : (slots units : ℕ) (begins : List ℕ) → leb units (length begins) ≡ true
      → (units_ok slots units begins ≡ true) ↔ UnitsRight slots units begins
  -- 11: an owner is known, or nobody; 12: a person is available, or it is nobody
  pub known : (people w : ℕ) → (known_by people w ≡ true) ↔ ((w ≡ nobody) ⊎ (w < people))
  pub available : (avail : List ℕ) (w k : ℕ) → (available_for avail w k ≡ true) ↔ (w ≢ nobody → row_slots avail w k ≡ 1)
