-- Demand 1 of the job, in the words of the paper's table: each test of its row, by number, and exactly when it passes, said of the records
-- of its file. Assumes nothing.
use Rattle.std.specs.Prelude.{◌≡◌, true, false, List, ◌⊎◌, ◌↔◌, ◌≢◌, ℕ, ◌≤◌, ◌<◌, length}
use Rattle.paper.specs.Limits.{Test}
use Rattle.slotset.specs.Answers.{row_slots}
use Rattle.slots.specs.Atomic.{starts_of_atoms}
use Rattle.units.specs.Units.{unit_start, unit_end}
use Rattle.records.specs.Fields.{Bytes}
use Rattle.records.specs.Records.{Rec, bodies}
use Rattle.job.specs.File.{JobFile}
use Rattle.job.specs.Stages.{Ready}
use Rattle.job.specs.Outcome.{test_at, job_tests}
use Rattle.promises.specs.Tests.{SlotsRight, RangesRight, FiguresRight, SettingsRight}
use Rattle.promises.specs.JobFields.{field, given_by, owner_in, base_from, ready_from}

-- test k of a row has this number, and passes exactly when this holds
pub record PassesWhen (ts : List Test) (k n : ℕ) (Right : Type 0) : Type 0 where
  pub number : (test_at ts k).number ≡ n
  pub passes : ((test_at ts k).passes ≡ true) ↔ Right

-- the tests before test k pass: of several numbers only the first is given
abbrev pub PassBefore : List Test → ℕ → Type 0
PassBefore ts k = (j : ℕ) → j < k → (test_at ts j).passes ≡ true

-- 1: not "a count is outside the numbers above"; base slots, people, ranges, draws
pub record CountsRight (rs : List Rec) : Type 0 where
  pub base-least : 1 ≤ length (bodies 2 rs)
  pub base-most : length (bodies 2 rs) ≤ 1024
  pub people-least : 1 ≤ length (bodies 3 rs)
  pub people-most : length (bodies 3 rs) ≤ 32
  pub ranges : length (bodies 4 rs) ≤ 1024
  pub draws : length (bodies 7 rs) ≤ 1024

-- all below n are right; and n has a lowest that is not
abbrev pub AllRight : ℕ → (ℕ → Type 0) → Type 0
AllRight n Right = (k : ℕ) → k < n → Right k

pub record LowestFault (n : ℕ) (Right : ℕ → Type 0) (k : ℕ) : Type 0 where
  pub below : k < n
  pub wrong : Right k → ⊥
  pub lower : (j : ℕ) → j < k → Right j

-- 10, here "only an uneven unit": the slots of each unit have one owner, as written
abbrev pub UnitEven : List Rec → Ready → ℕ → Type 0
UnitEven rs R u =
    (k : ℕ) → unit_start R.begins u ≤ k → k < unit_end R.slots R.units R.begins u
    → owner_in (bodies 6 rs) k ≡ owner_in (bodies 6 rs) (unit_start R.begins u)

abbrev pub OwnersEven : List Rec → Ready → Type 0
OwnersEven rs R = AllRight R.units (UnitEven rs R)

-- 11: each owner record names a slot below the count, and nobody or a known person, by the whole u16
abbrev pub OwnersKnown : List Rec → Ready → Type 0
OwnersKnown rs R =
    (k : ℕ) → k < length (bodies 6 rs) → (field rs 6 0 2 k < R.slots) × ((field rs 6 2 2 k ≡ 255) ⊎ (field rs 6 2 2 k < R.people))

-- 12: each slot's owner is nobody, or available for it
abbrev pub OwnersAble : List Rec → Ready → Type 0
OwnersAble rs R =
    (k : ℕ) → k < R.slots → owner_in (bodies 6 rs) k ≢ 255 → row_slots R.avail (owner_in (bodies 6 rs) k) k ≡ 1

-- the whole row of a job that is lent this many bytes for its listing; 13 comes first, and each test from 3 on is said where those before
-- it pass
pub record JobTests (s : List ℕ) (lent : ℕ) : Type 0 where
  pub many : length (job_tests s lent) ≡ 11
  pub layout : Bytes s → PassesWhen (job_tests s lent) 0 13 (JobFile s)
  pub counts : (J : JobFile s) → PassesWhen (job_tests s lent) 1 1 (CountsRight J.records)
  pub room : PassesWhen (job_tests s lent) 2 2 (65536 ≤ lent)
  pub base : (J : JobFile s) → PassBefore (job_tests s lent) 3
      → let G = given_by J.records in PassesWhen (job_tests s lent) 3 3 (SlotsRight G.base G.starts G.ends)
  pub ranges : (J : JobFile s) → PassBefore (job_tests s lent) 4
      → let G = given_by J.records in PassesWhen (job_tests s lent) 4 4 (RangesRight G.people G.ranges)
  pub atoms : (J : JobFile s) → PassBefore (job_tests s lent) 5
      → PassesWhen (job_tests s lent) 5 5 (length (starts_of_atoms (base_from (given_by J.records))) ≤ 1024)
  pub figures : (J : JobFile s) → PassBefore (job_tests s lent) 6
      → let G = given_by J.records in PassesWhen (job_tests s lent) 6 6 (FiguresRight G.people G.capacities G.priors)
  pub settings : (J : JobFile s) → PassBefore (job_tests s lent) 7
      → PassesWhen (job_tests s lent) 7 7 (SettingsRight (given_by J.records).settings)
  pub even : (J : JobFile s) → PassBefore (job_tests s lent) 8
      → PassesWhen (job_tests s lent) 8 10 (OwnersEven J.records (ready_from (given_by J.records)))
  -- its place is the lowest unit that has two owners
  pub uneven : (J : JobFile s) → PassBefore (job_tests s lent) 8 → (test_at (job_tests s lent) 8).passes ≡ false
      → let R = ready_from (given_by J.records) in LowestFault R.units (UnitEven J.records R) (test_at (job_tests s lent) 8).place
  pub known : (J : JobFile s) → PassBefore (job_tests s lent) 9
      → PassesWhen (job_tests s lent) 9 11 (OwnersKnown J.records (ready_from (given_by J.records)))
  pub able : (J : JobFile s) → PassBefore (job_tests s lent) 10
      → PassesWhen (job_tests s lent) 10 12 (OwnersAble J.records (ready_from (given_by J.records)))

abbrev pub JobTestsByRule : Type 0
JobTestsByRule = (s : List ℕ) (lent : ℕ) → JobTests s lent
