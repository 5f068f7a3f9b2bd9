-- The job, said of the records of its file: which field of which kind gives what, which entry is given it, and what comes of that.
-- Assumes nothing.
use Rattle.std.specs.Prelude.{◌≡◌, cond, List, [], ◌∷◌, map, ℕ, eqb, Float, pos, length, get_or, replicate}
use Rattle.std.specs.Float.{binary64}
use Rattle.std.specs.Float.Ieee.{of_bits}
use Rattle.paper.specs.Limits.{nobody}
use Rattle.paper.specs.Count.{over}
use Rattle.slots.specs.Ranges.{Ranges, ranges}
use Rattle.slots.specs.Atomic.{Base, base, Atoms, atomise_of}
use Rattle.slots.specs.Availability.{availability_of}
use Rattle.slots.specs.Freeze.{freeze_of}
use Rattle.units.specs.declared.Settings.{Settings}
use Rattle.units.specs.Answers.{Written}
use Rattle.units.specs.Starts.{unit_starts_is}
use Rattle.targets.specs.Outcome.{given, compute_targets}
use Rattle.owners.specs.Derived.{Plan, plan, derived}
use Rattle.owners.specs.Entries.{Outcome, from_slots}
use Rattle.records.specs.Fields.{le}
use Rattle.records.specs.Records.{Rec, bodies}
use Rattle.job.specs.File.{JobFile}
use Rattle.job.specs.Listing.{Listed, listed}
use Rattle.job.specs.Stages.{value_of, Ready, ready, listed_of}
use Rattle.job.specs.Outcome.{job_refusal, job_result}
use Rattle.promises.specs.Entries.{Call, play_of}

-- ---- the fields

-- the number in the `width` bytes from `off` on of the body of record k of a kind; and that of every record of the kind, as a column
abbrev pub field : List Rec → ℕ → ℕ → ℕ → ℕ → ℕ
field rs kind off width k = le width (get_or (bodies kind rs) k []) off

abbrev pub fields : List Rec → ℕ → ℕ → ℕ → List ℕ
fields rs kind off width = over (field rs kind off width) (length (bodies kind rs)) (replicate 1024 0)

-- what the records give, but for the owners
pub record Given : Type 0 where
  pub settings : Settings
  pub base : ℕ
  pub starts : List ℕ
  pub ends : List ℕ
  pub people : ℕ
  pub capacities : List Float
  pub priors : List ℕ
  pub ranges : Ranges
  pub freezes : ℕ
  pub instant : ℕ
  pub played : ℕ
  pub draws : List ℕ
  pub firsts : List ℕ
  pub seconds : List ℕ

-- "1 settings: fairness, lock, boundary, edition, u16 value, u16 days. 2 base: u32 start, end. 3 person: f64 capacity bits, u32 prior.
-- 4 range: u16 person, u32 start, end. 5 freeze: u32. 7 draw: three u16."
abbrev pub given_by : List Rec → Given
given_by rs = record {
  settings = record {
    fairness = field rs 1 0 1 0;
    lock = field rs 1 1 1 0;
    boundary = field rs 1 2 1 0;
    edition = field rs 1 3 1 0;
    value = field rs 1 4 2 0;
    days = field rs 1 6 2 0;
  };
  base = length (bodies 2 rs);
  starts = fields rs 2 0 4;
  ends = fields rs 2 4 4;
  people = length (bodies 3 rs);
  capacities = map (of_bits binary64) (fields rs 3 0 8);
  priors = fields rs 3 8 4;
  ranges = ranges (length (bodies 4 rs)) (fields rs 4 0 2) (fields rs 4 2 4) (fields rs 4 6 4);
  freezes = length (bodies 5 rs);
  instant = cond (eqb (length (bodies 5 rs)) 0) 0 (field rs 5 0 4 0);
  played = length (bodies 7 rs);
  draws = fields rs 7 0 2;
  firsts = fields rs 7 2 2;
  seconds = fields rs 7 4 2;
}

-- "6 owner: u16 slot, u16 owner, slots rising, the rest 255": the owner of slot j, of any number of records
unfoldable pub owner_in : List (List ℕ) → ℕ → ℕ
owner_in [] j = nobody
owner_in (b ∷ bs) j = cond (eqb (le 2 b 0) j) (le 2 b 2) (owner_in bs j)

abbrev pub owners_by : List Rec → List ℕ
owners_by rs = over (owner_in (bodies 6 rs)) 1024 (replicate 1024 0)

-- ---- what is worked out from them, by the outcomes of the entries

abbrev pub base_from : Given → Base
base_from G = base G.base G.starts G.ends G.people G.ranges (replicate 1024 0) (replicate 1024 0)

abbrev pub atoms_from : Given → Atoms
atoms_from G = atomise_of (base_from G)

abbrev pub slots_from : Given → ℕ
slots_from G = value_of (atoms_from G).answer

abbrev pub plan_from : Given → Plan
plan_from G = plan G.people (slots_from G) (atoms_from G).starts (atoms_from G).ends

abbrev pub avail_from : Given → List ℕ
avail_from G = availability_of G.people (slots_from G) (atoms_from G).starts (atoms_from G).ends G.ranges (replicate 512 0)

abbrev pub units_from : Given → Written
units_from G = unit_starts_is G.settings (slots_from G) (atoms_from G).starts (atoms_from G).ends (replicate 1024 0)

-- without a freeze record nothing is frozen
abbrev pub frozen_from : Given → List ℕ
frozen_from G =
    cond (eqb G.freezes 0) (replicate 16 0)
    (freeze_of (slots_from G) (atoms_from G).starts (atoms_from G).ends (replicate 16 0) G.instant).flags

-- all that a play goes by
abbrev pub ready_from : Given → Ready
ready_from G =
    ready G.people (slots_from G) (atoms_from G).starts (atoms_from G).ends (avail_from G) (value_of (units_from G).answer)
    (units_from G).buffer (frozen_from G)
    (compute_targets (given G.people (slots_from G) (atoms_from G).starts (atoms_from G).ends (avail_from G) G.capacities G.priors
    G.settings.fairness G.settings.edition) (replicate 32 (pos 0))).out

-- the rota of the owners, and the play of the draws on it
abbrev pub start_from : Given → List ℕ → Outcome
start_from G o = from_slots (plan_from G) (avail_from G) o (derived (replicate 512 0) (replicate 32 0) (replicate 2 0))

abbrev pub call_from : Given → List ℕ → Call
call_from G o = record {
  plan = plan_from G;
  avail = avail_from G;
  units = value_of (units_from G).answer;
  begins = (units_from G).buffer;
  frozen = frozen_from G;
  count = G.played;
  draws = G.draws;
  firsts = G.firsts;
  seconds = G.seconds;
  owners = o;
  derived = (start_from G o).derived;
  answers = replicate 1024 0;
}

-- "S: start, end, last owner; P: minutes, target; D; U"
abbrev pub listed_from : Given → List ℕ → Listed
listed_from G o =
    let y = play_of (call_from G o) in
    listed (slots_from G) (atoms_from G).starts (atoms_from G).ends y.owners G.people y.derived.minutes (ready_from G).targets
    G.played y.answers (get_or y.derived.totals 0 0)

-- ---- the promise: an accepted job lists what its records give so

abbrev pub JobByRecords : Type 0
JobByRecords = (s x : List ℕ) (J : JobFile s) → (job_refusal (job_result s x).answer).number ≡ 0
    → listed_of s ≡ listed_from (given_by J.records) (owners_by J.records)
