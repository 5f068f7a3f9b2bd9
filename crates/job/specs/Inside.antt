-- What only job's own functions cite: what each stage returns, and what it may take for granted. Assumes nothing.
use Rattle.std.specs.Prelude.{◌≡◌, Bool, true, List, [], ◌∷◌, ℕ, ◌≤◌, ℤ, length, get_or, Result, Ok, Err}
use Rattle.paper.specs.Limits.{Test, test_in, test, number_of}
use Rattle.paper.specs.declared.Refusal.{Refusal}
use Rattle.paper.specs.Rows.{refusal_of, answer_refusal}
use Rattle.slots.specs.Atomic as atomic
use Rattle.units.specs.Answers.{Written}
use Rattle.targets.specs.Outcome as targets
use Rattle.owners.specs.Derived.{derived}
use Rattle.owners.specs.Entries as state
use Rattle.owners.specs.Entries.{placeless}
use Rattle.job.specs.declared.Atoms.{Atoms}
use Rattle.job.specs.declared.JobSlots.{JobSlots}
use Rattle.job.specs.declared.JobUnits.{JobUnits}
use Rattle.job.specs.declared.Started.{Started}
use Rattle.job.specs.declared.Prepared.{Prepared}
use Rattle.job.specs.declared.Played.{Played}
use Rattle.job.specs.File.{job_counts, job_starts, file_ok}
use Rattle.job.specs.Stages.{job_counts_ok, atoms_of, avail_in, Ready, ready, ready_of, placed, all_even, uneven_in, all_known}
use Rattle.job.specs.Stages.{narrowed, owners_of, started_of}
use Rattle.job.specs.Outcome.{prepare_row}

-- a file whose layout and counts are right
pub record ReadOk (s c b : List ℕ) : Type 0 where
  pub ok : file_ok s ≡ true
  pub counts : c ≡ job_counts s
  pub starts : b ≡ job_starts s
  pub few : job_counts_ok (get_or c 1 0) (get_or c 2 0) (get_or c 3 0) (get_or c 6 0) ≡ true

-- a stage refuses with the number n, which is not 0
pub record Refuses (n : ℕ) (f : Refusal) : Type 0 where
  pub said : f ≡ placeless n
  pub some : n ≡ 0 → ⊥

-- the atomic slots, with availability, the units, the targets, as their crates give them
pub record AtomsIn (x : atomic.Atoms) (r : Atoms) : Type 0 where
  pub answer : x.answer ≡ Ok r.count
  pub starts : r.starts ≡ x.starts
  pub ends : r.ends ≡ x.ends
  pub starts-room : length r.starts ≡ 1024
  pub ends-room : length r.ends ≡ 1024

abbrev pub AtomsAs : atomic.Atoms → Result Atoms Refusal → Type 0
AtomsAs x (Ok r) = AtomsIn x r
AtomsAs x (Err f) = Refuses (answer_refusal x.answer) f

pub record SlotsIn (s : List ℕ) (r : JobSlots) : Type 0 where
  pub answer : (atoms_of s).answer ≡ Ok r.count
  pub starts : r.starts ≡ (atoms_of s).starts
  pub ends : r.ends ≡ (atoms_of s).ends
  pub avail : r.avail ≡ avail_in s r.count r.starts r.ends
  pub few : r.count ≤ 1024
  pub starts-room : length r.starts ≡ 1024
  pub ends-room : length r.ends ≡ 1024
  pub avail-room : length r.avail ≡ 512

abbrev pub SlotsAs : List ℕ → Result JobSlots Refusal → Type 0
SlotsAs s (Ok r) = SlotsIn s r
SlotsAs s (Err f) = Refuses (answer_refusal (atoms_of s).answer) f

pub record UnitsIn (w : Written) (r : JobUnits) : Type 0 where
  pub answer : w.answer ≡ Ok r.count
  pub begins : r.begins ≡ w.buffer
  pub room : length r.begins ≡ 1024

abbrev pub UnitsAs : Written → Result JobUnits Refusal → Type 0
UnitsAs w (Ok r) = UnitsIn w r
UnitsAs w (Err f) = Refuses (answer_refusal w.answer) f

pub record TargetsIn (x : targets.Outcome) (t : List ℤ) : Type 0 where
  pub number : x.number ≡ 0
  pub targets : t ≡ x.out
  pub room : length t ≡ 32

abbrev pub TargetsAs : targets.Outcome → Result (List ℤ) Refusal → Type 0
TargetsAs x (Ok t) = TargetsIn x t
TargetsAs x (Err f) = Refuses x.number f

-- 10 and 11 of n owner records from `at` on; even: each unit has one owner; uneven: the lowest that has two
unfoldable pub owners_row : List ℕ → ℕ → ℕ → ℕ → ℕ → Bool → ℕ → List Test
owners_row s at n slots people even uneven = test_in 10 even 3 uneven 0 ∷ test 11 (all_known s at n slots people) ∷ []

-- what they come to: their refusal, or the owners as bytes
abbrev pub owners_tests : List ℕ → ℕ → ℕ → ℕ → ℕ → ℕ → List ℕ → List Test
owners_tests s at n slots people units begins =
    owners_row s at n slots people (all_even slots units begins (placed s at slots n)) (uneven_in slots units begins (placed s at slots n))

pub record OwnersIn (s : List ℕ) (at n slots people units : ℕ) (begins o : List ℕ) : Type 0 where
  pub passes : number_of (owners_tests s at n slots people units begins) ≡ 0
  pub owners : o ≡ narrowed (placed s at slots n)

abbrev pub OwnersAs : List ℕ → ℕ → ℕ → ℕ → ℕ → ℕ → List ℕ → Result (List ℕ) Refusal → Type 0
OwnersAs s at n slots people units begins (Ok o) = OwnersIn s at n slots people units begins o
OwnersAs s at n slots people units begins (Err f) = (f ≡ refusal_of (owners_tests s at n slots people units begins)) × (f.number ≡ 0 → ⊥)

-- sets, minutes and totals, and the play, as the rota gives them
pub record StartedIn (y : state.Outcome) (r : Started) : Type 0 where
  pub number : y.refusal.number ≡ 0
  pub derived : derived r.sets r.minutes r.totals ≡ y.derived

abbrev pub StartedAs : state.Outcome → Result Started Refusal → Type 0
StartedAs y (Ok r) = StartedIn y r
StartedAs y (Err f) = Refuses y.refusal.number f

pub record PlayedIn (y : state.Outcome) (r : Played) : Type 0 where
  pub number : y.refusal.number ≡ 0
  pub owners : r.owners ≡ y.owners
  pub minutes : r.minutes ≡ y.derived.minutes
  pub totals : r.totals ≡ y.derived.totals
  pub answers : r.answers ≡ y.answers
  pub owners-room : length r.owners ≡ 1024
  pub minutes-room : length r.minutes ≡ 32
  pub totals-room : length r.totals ≡ 2
  pub answers-room : length r.answers ≡ 1024

abbrev pub PlayedAs : state.Outcome → Result Played Refusal → Type 0
PlayedAs y (Ok r) = PlayedIn y r
PlayedAs y (Err f) = (f ≡ y.refusal) × (f.number ≡ 0 → ⊥)

-- what a play goes by, of a prepared job; and that it was prepared from the file s
abbrev pub ready_by : Prepared → Ready
ready_by r =
    ready r.people r.slots r.starts r.ends r.avail r.units r.begins r.frozen r.targets

pub record PreparedIn (s : List ℕ) (r : Prepared) : Type 0 where
  pub passes : number_of (prepare_row s) ≡ 0
  pub ready : ready_by r ≡ ready_of s
  pub owners : r.owners ≡ owners_of s
  pub derived : derived r.sets r.minutes r.totals ≡ (started_of s).derived
  pub slots-few : r.slots ≤ 1024
  pub people-few : r.people ≤ 32
  pub starts-room : length r.starts ≡ 1024
  pub ends-room : length r.ends ≡ 1024
  pub begins-room : length r.begins ≡ 1024
  pub frozen-room : length r.frozen ≡ 16
  pub targets-room : length r.targets ≡ 32

-- a prepared job, or the refusal of what stands in the file
abbrev pub PreparedAs : List ℕ → Result Prepared Refusal → Type 0
PreparedAs s (Ok r) = PreparedIn s r
PreparedAs s (Err f) = (f ≡ refusal_of (prepare_row s)) × (f.number ≡ 0 → ⊥)
