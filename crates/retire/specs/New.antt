-- What is new: base slots split over their own ranges, who is available for them, and their units, the first of them as slot 0.
-- Assumes nothing.
use Rattle.std.specs.Prelude.{List, ℕ, length}
use Rattle.slots.specs.Ranges.{Ranges}
use Rattle.slots.specs.Atomic.{is_cut, atom_starts, atom_ends}
use Rattle.slots.specs.Availability.{available_bit}
use Rattle.units.specs.declared.Settings.{Settings}
use Rattle.units.specs.Starts.{unit_starts}

-- the settings, the new base slots and the ranges for them; there may be none
pub record New : Type 0 where
  pub settings : Settings
  pub count : ℕ
  pub starts : List ℕ
  pub ends : List ℕ
  pub ranges : Ranges

abbrev pub new : Settings → ℕ → List ℕ → List ℕ → Ranges → New
new s n a b R = record { settings = s; count = n; starts = a; ends = b; ranges = R }

-- where the new slots start and end: the base slots split by the paper's rule
unfoldable pub new_starts : ℕ → New → List ℕ
new_starts people N = atom_starts (is_cut people N.ranges) N.count N.starts N.ends

unfoldable pub new_ends : ℕ → New → List ℕ
new_ends people N = atom_ends (is_cut people N.ranges) N.count N.starts N.ends

-- how many there are
abbrev pub new_count : ℕ → New → ℕ
new_count people N = length (new_starts people N)

-- the mark of new slot k in a person's set: each of its minutes lies in one of the person's ranges
unfoldable pub new_bit : ℕ → New → ℕ → ℕ → ℕ
new_bit people N p k = available_bit N.ranges (new_starts people N) (new_ends people N) p k

-- where their units start, counted from the first new slot on
unfoldable pub new_units : ℕ → New → List ℕ
new_units people N = unit_starts N.settings (new_count people N) (new_starts people N)
