-- What stands in a job's file, part by part, each by the outcome of the crate that works it out. Assumes nothing.
use Rattle.std.specs.Prelude.{Bool, ◌&&◌, cond, List, ℕ, zero, suc, ◌+◌, ◌-◌, ◌*◌, leb, ltb, eqb, Float, ℤ, pos, get_or, set, replicate, Result, Ok, Err}
use Rattle.paper.specs.Limits.{people_ok, slot_count_ok, ranges_most, draws_most, nobody}
use Rattle.paper.specs.Count.{all, over, sum}
use Rattle.slots.specs.Ranges.{Ranges, ranges}
use Rattle.slots.specs.Atomic as atomic
use Rattle.slots.specs.Availability.{availability_of}
use Rattle.slots.specs.Freeze.{freeze_of}
use Rattle.units.specs.declared.Settings.{Settings}
use Rattle.units.specs.Answers.{Written}
use Rattle.units.specs.Starts.{unit_starts_is}
use Rattle.targets.specs.Outcome as targets
use Rattle.owners.specs.Derived.{Plan, plan, Derived, derived, known_by}
use Rattle.owners.specs.Recount.{first_fail, even_at}
use Rattle.owners.specs.Entries as state
use Rattle.rota.specs.Entries as rota
use Rattle.records.specs.Fields.{le}
use Rattle.job.specs.File.{job_sizes, job_counts, job_starts, owner_slot}
use Rattle.job.specs.Columns.{column, float_column}
use Rattle.job.specs.Listing.{Listed, listed}

-- ---- counts and columns

-- how many records of kind i + 1 a file has, and where they begin
abbrev pub counted : List ℕ → ℕ → ℕ
counted s i = get_or (job_counts s) i 0

abbrev pub block_start : List ℕ → ℕ → ℕ
block_start s i = get_or (job_starts s) i 0

abbrev pub people_of : List ℕ → ℕ
people_of s = counted s 2

-- 1: base slots, people, ranges and draws
unfoldable pub job_counts_ok : ℕ → ℕ → ℕ → ℕ → Bool
job_counts_ok base people ranges draws =
    slot_count_ok base && (people_ok people && (leb ranges ranges_most && leb draws draws_most))

-- the field at `off` of each record of kind i + 1, `width` bytes wide
abbrev pub column_of : List ℕ → ℕ → ℕ → ℕ → List ℕ
column_of s i off width = column width s (block_start s i + (4 + off)) (4 + get_or job_sizes i 0) (counted s i)

abbrev pub ranges_of : List ℕ → Ranges
ranges_of s = ranges (counted s 3) (column_of s 3 0 2) (column_of s 3 2 4) (column_of s 3 6 4)

abbrev pub capacities_of : List ℕ → List Float
capacities_of s = float_column s (block_start s 2 + 4) 16 (people_of s)

abbrev pub priors_of : List ℕ → List ℕ
priors_of s = column_of s 2 8 4

-- the body of the settings record, which is the first; the instant of the freeze record
unfoldable pub settings_in : List ℕ → Settings
settings_in s = record {
  fairness = get_or s 4 0;
  lock = get_or s 5 0;
  boundary = get_or s 6 0;
  edition = get_or s 7 0;
  value = le 2 s 8;
  days = le 2 s 10;
}

abbrev pub instant_of : List ℕ → ℕ
instant_of s = cond (eqb (counted s 4) 0) 0 (le 4 s (block_start s 4 + 4))

pub record Draws : Type 0 where
  pub count : ℕ
  pub draws : List ℕ
  pub firsts : List ℕ
  pub seconds : List ℕ

abbrev pub draw_columns : ℕ → List ℕ → List ℕ → List ℕ → Draws
draw_columns n k a b = record { count = n; draws = k; firsts = a; seconds = b }

unfoldable pub draws_of : List ℕ → Draws
draws_of s = draw_columns (counted s 6) (column_of s 6 0 2) (column_of s 6 2 2) (column_of s 6 4 2)

-- the total of the file's base slots: end less start of each base record
unfoldable pub base_total : List ℕ → ℕ
base_total s =
    let at = block_start s 1 in
    sum (counted s 1) (λ k. le 4 s (at + 8 + k * 12) - le 4 s (at + 4 + k * 12))

-- ---- slots, units and targets

-- the number that was asked for, 0 where refused
abbrev pub value_of : Result ℕ ℕ → ℕ
value_of (Ok n) = n
value_of (Err k) = 0

-- the base slots, the people and their ranges; the atomic slots (3, 4, 5)
unfoldable pub base_of : List ℕ → atomic.Base
base_of s =
    atomic.base (counted s 1) (column_of s 1 0 4) (column_of s 1 4 4) (people_of s) (ranges_of s) (replicate 1024 0) (replicate 1024 0)

unfoldable pub atoms_of : List ℕ → atomic.Atoms
atoms_of s = atomic.atomise_of (base_of s)

-- of n slots from starts to ends: availability, targets (6, 7, 8), units (7) and the frozen flags, of which there are none without a freeze
unfoldable pub avail_in : List ℕ → ℕ → List ℕ → List ℕ → List ℕ
avail_in s n starts ends = availability_of (people_of s) n starts ends (ranges_of s) (replicate 512 0)

unfoldable pub targets_in : List ℕ → ℕ → List ℕ → List ℕ → List ℕ → targets.Outcome
targets_in s n starts ends avail =
    targets.compute_targets (targets.given (people_of s) n starts ends avail (capacities_of s) (priors_of s) (settings_in s).fairness
    (settings_in s).edition)
    (replicate 32 (pos 0))

unfoldable pub units_in : List ℕ → ℕ → List ℕ → List ℕ → Written
units_in s n starts ends = unit_starts_is (settings_in s) n starts ends (replicate 1024 0)

unfoldable pub frozen_in : ℕ → List ℕ → List ℕ → ℕ → ℕ → List ℕ
frozen_in slots starts ends freezes instant =
    cond (eqb freezes 0) (replicate 16 0) (freeze_of slots starts ends (replicate 16 0) instant).flags

-- what a play goes by
pub record Ready : Type 0 where
  pub people : ℕ
  pub slots : ℕ
  pub starts : List ℕ
  pub ends : List ℕ
  pub avail : List ℕ
  pub units : ℕ
  pub begins : List ℕ
  pub frozen : List ℕ
  pub targets : List ℤ

abbrev pub ready : ℕ → ℕ → List ℕ → List ℕ → List ℕ → ℕ → List ℕ → List ℕ → List ℤ → Ready
ready people slots starts ends avail units begins frozen targets = record {
  people = people;
  slots = slots;
  starts = starts;
  ends = ends;
  avail = avail;
  units = units;
  begins = begins;
  frozen = frozen;
  targets = targets;
}

unfoldable pub ready_in : List ℕ → ℕ → List ℕ → List ℕ → List ℕ → Ready
ready_in s n starts ends avail =
    ready (people_of s) n starts ends avail (value_of (units_in s n starts ends).answer) (units_in s n starts ends).buffer
    (frozen_in n starts ends (counted s 4) (instant_of s)) (targets_in s n starts ends avail).out

unfoldable pub ready_of : List ℕ → Ready
ready_of s =
    let a = atoms_of s in
    let n = value_of a.answer in
    ready_in s n a.starts a.ends (avail_in s n a.starts a.ends)

-- ---- owners

-- the owner that record k gives
unfoldable pub owner_value : List ℕ → ℕ → ℕ → ℕ
owner_value s at k = le 2 s (at + k * 8 + 6)

-- the owners after the first n records, 255 for the slots that none names; a record whose slot doesn't exist takes no part
unfoldable pub placed : List ℕ → ℕ → ℕ → ℕ → List ℕ
placed s at slots zero = replicate 1024 255
placed s at slots (suc k) =
    cond (ltb (owner_slot s at k) slots) (set (placed s at slots k) (owner_slot s at k) (owner_value s at k)) (placed s at slots k)

-- 10: each unit has one owner, as written; the lowest that has two, or the number of units
unfoldable pub all_even : ℕ → ℕ → List ℕ → List ℕ → Bool
all_even slots units begins o = all units (even_at slots units begins o)

unfoldable pub uneven_in : ℕ → ℕ → List ℕ → List ℕ → ℕ
uneven_in slots units begins o = first_fail units (even_at slots units begins o)

-- 11: the slot exists, and the owner is nobody or a known person
unfoldable pub record_known : List ℕ → ℕ → ℕ → ℕ → ℕ → Bool
record_known s at slots people k = ltb (owner_slot s at k) slots && known_by people (owner_value s at k)

unfoldable pub all_known : List ℕ → ℕ → ℕ → ℕ → ℕ → Bool
all_known s at n slots people = all n (record_known s at slots people)

-- the owners as bytes: a known owner or nobody stays what it is
unfoldable pub byte_of : ℕ → ℕ
byte_of w = cond (ltb w 256) w nobody

unfoldable pub narrowed : List ℕ → List ℕ
narrowed o = over (λ k. byte_of (get_or o k 0)) 1024 (replicate 1024 0)

-- the owners as written, and as bytes
unfoldable pub written_of : List ℕ → List ℕ
written_of s = placed s (block_start s 5) (ready_of s).slots (counted s 5)

unfoldable pub owners_of : List ℕ → List ℕ
owners_of s = narrowed (written_of s)

-- the lowest unit to which the owners as written give two
unfoldable pub uneven_of : List ℕ → ℕ
uneven_of s = uneven_in (ready_of s).slots (ready_of s).units (ready_of s).begins (written_of s)

-- ---- the rota before the draws, and after them

abbrev pub plan_of : Ready → Plan
plan_of R = plan R.people R.slots R.starts R.ends

-- sets, minutes and totals from the owners (12), and the play of the draws
unfoldable pub start_of : Ready → List ℕ → state.Outcome
start_of R o = state.from_slots (plan_of R) R.avail o (derived (replicate 512 0) (replicate 32 0) (replicate 2 0))

unfoldable pub play_of : Ready → Draws → List ℕ → Derived → state.Outcome
play_of R d o D =
    rota.played (plan_of R) R.avail R.units R.begins R.frozen d.count d.draws d.firsts d.seconds o D
    (replicate 1024 0)

unfoldable pub started_of : List ℕ → state.Outcome
started_of s = start_of (ready_of s) (owners_of s)

unfoldable pub played_of : List ℕ → state.Outcome
played_of s = play_of (ready_of s) (draws_of s) (owners_of s) (started_of s).derived

-- what is listed: P minutes and U are those stored after the draws
unfoldable pub listed_of : List ℕ → Listed
listed_of s =
    let R = ready_of s in
    let y = played_of s in
    listed R.slots R.starts R.ends y.owners R.people y.derived.minutes R.targets (draws_of s).count y.answers
    (get_or y.derived.totals 0 0)
