-- "that only one outcome fits is itself proved": of each form that a contract has, two outcomes that meet it are one.
-- There is no exception. Assumes nothing.
use Rattle.std.specs.Prelude.{◌≡◌, Bool, List, ℕ, ℤ, Result}
use Rattle.paper.specs.declared.Refusal.{Refusal}
use Rattle.slots.specs.Merged.{MergedOut, MergedEnd}
use Rattle.slots.specs.Atomic.{Atoms, AtomsEnd}
use Rattle.units.specs.Answers.{Written, EndsAs}
use Rattle.targets.specs.Outcome as targets
use Rattle.owners.specs.Derived.{Derived}
use Rattle.owners.specs.Entries as state
use Rattle.mend.specs.Repairs.{Rota}
use Rattle.mend.specs.Answers as mend
use Rattle.retire.specs.declared.Retiring.{Retiring}
use Rattle.retire.specs.Outcome as retire
use Rattle.rota.specs.declared.replay.Replayed.{Replayed}
use Rattle.rota.specs.Replays as replay
use Rattle.wayback.specs.declared.Way.{Way}
use Rattle.wayback.specs.Answers as wayback
use Rattle.job.specs.Outcome as job
use Rattle.job.specs.declared.Begun.{Begun}
use Rattle.job.specs.Begun as begun
use Rattle.replay.specs.declared.BlockRead.{BlockRead}
use Rattle.replay.specs.Reading as reading
use Rattle.replay.specs.declared.Played.{Played}
use Rattle.replay.specs.Stage as stage

abbrev pub Only {ℓ} : {A : Type ℓ} → (A → Type ℓ) → Type ℓ
Only {A = A} Fits = (x y : A) → Fits x → Fits y → x ≡ y

pub record OneOutcome : Type 1 where
  -- every reader, every number, every set handed back, and each buffer that a contract equates by itself
  pub equated : {A : Type 0} (said : A) → Only (λ (r : A). r ≡ said)
  -- a number and one buffer: availability, freeze_before, unit_domains, achievable_runs, put_stretch, store, clear
  pub equated-both : {A B : Type 0} (said : A) (left : B) → Only (λ (r : A × B). (r.0 ≡ said) × (r.1 ≡ left))
  pub merged-ranges : (x : MergedOut) → Only (λ (r : Result ℕ ℕ × List ℕ × List ℕ × List ℕ). MergedEnd x r.0 r.1 r.2 r.3)
  pub atomise : (x : Atoms) → Only (λ (r : Result ℕ ℕ × List ℕ × List ℕ). AtomsEnd x r.0 r.1 r.2)
  -- rotation_starts, unit_starts, slot_domain, unit_domain
  pub written : (w : Written) → Only (λ (r : Result ℕ ℕ × List ℕ). EndsAs w r.0 r.1)
  pub compute-targets : (g : targets.Given) (out : List ℤ) → Only (λ (r : ℕ × List ℤ). targets.Meets g out r.0 r.1)
  -- from_slots, assign, empty, and play, of columns and of structs
  pub rota : (y : state.Outcome) → Only (λ (r : Refusal × List ℕ × Derived × List ℕ). state.Ended y r.0 r.1 r.2 r.3)
  pub replay-block : (y : replay.Outcome) → Only (λ (r : Result Replayed Refusal × List ℕ × Derived). replay.Replays y r.0 r.1 r.2)
  -- begin: the refusal, and all that is handed over beside it; play_block: what is answered, the rota and the text's buffer
  pub begin : (file : List ℕ) (room : Bool) (r q : Begun) → begun.BegunIn file room r → begun.BegunIn file room q
      → (r.refusal ≡ q.refusal) × (begun.ready_from r ≡ begun.ready_from q) × (r.owners ≡ q.owners)
      × (begun.derived_from r ≡ begun.derived_from q)
  pub play-block : (y : stage.Staged) → Only (λ (r : Played × List ℕ × Derived × List ℕ). stage.StagedAs y r.0 r.1 r.2 r.3)
  -- begin_recording: what is answered, the three counts and all ten columns; read_block: what is answered, and its four columns
  pub begin-recording : (y : begun.Beginning) → Only (λ (r : Refusal × begun.Lent). begun.Begins y r.0 r.1)
  pub read-block : (t : List ℕ) (blocks : ℕ) (ks fs ss rs : List ℕ)
      → Only (λ (r : Result BlockRead ℕ × List ℕ × List ℕ × List ℕ × List ℕ). reading.ReadsAs t blocks ks fs ss rs r.0 r.1 r.2 r.3 r.4)
  pub way_back : (y : wayback.Outcome) → Only (λ (r : Result Way Refusal × List ℕ × List ℕ × List ℕ). wayback.Ended y r.0 r.1 r.2 r.3)
  pub mend : (y : mend.Outcome) → Only (λ (r : Result ℕ ℕ × Rota × List ℕ). mend.Ended y r.0 r.1 r.2)
  -- retiring: what is answered, and all eleven columns
  pub retire : (y : retire.Outcome) → Only (λ (r : Result Retiring Refusal × retire.Columns). retire.Ended y r.0 r.1)
  -- run_job, refusal_line
  pub run-job : (y : job.Outcome) → Only (λ (r : Result ℕ Refusal × List ℕ). job.Ends y r.0 r.1)
