-- A recording's text, by the laws of replay. Assumes nothing.
use mathlib.Core.Path.{◌≡◌, refl, sym, ◌∙◌, subst}
use mathlib.Core.List.{List, []}
use Prim.Native.Nat.{ℕ}
use native.Mathlib.Omega.{arith}
use Rattle.paper.specs.Limits.{number_of}
use Rattle.paper.specs.Rows.{refusal_of}
use Rattle.paper.proofs.Rows.{worked, kept, said}
use Rattle.rota.specs.Plays.{owners_after}
use Rattle.job.specs.Listing.{refusal_line}
use Rattle.job.specs.Stages.{ready_of, owners_of}
use Rattle.job.specs.Begun.{recorded_tests}
use Rattle.replay.specs.Reading.{blocks_most, job_end, block_read}
use Rattle.replay.specs.Text.{blocks_text, replay_text}
use Rattle.replay.specs.Rule.{Shows}
use Rattle.replay.proofs.Recordings.{replays-text}
use Rattle.replay.proofs.Listed.{read-listed, read-holds, text-draws, text-answers}
use Rattle.replay.proofs.JobEnds.{job-listed}
use Rattle.replay.proofs.Ruled.{shows-text, text-shows}
use Rattle.promises.specs.RecordingRule.{job_in, blocks_in, RecordingsByRule, RecordsRead}

-- the text of the blocks that follow a job
abbrev blocks_of : List ℕ → List ℕ
blocks_of s = blocks_text blocks_most (ready_of (job_in s)) (owners_of (job_in s)) (blocks_in s)

accepted-text : (s : List ℕ) → number_of (recorded_tests (job_in s)) ≡ 0 → replay_text s ≡ blocks_of s
unfolding replay_text
accepted-text s z = worked _ _ (blocks_of s) (said _ refl ∙ z)

refused-text : (s : List ℕ) → (number_of (recorded_tests (job_in s)) ≡ 0 → ⊥) → replay_text s ≡ refusal_line (refusal_of (recorded_tests (job_in s)))
unfolding replay_text
refused-text s z = kept _ _ (blocks_of s) (λ q. z (sym (said _ refl) ∙ q))

shown-text : (s : List ℕ) → Shows (ready_of (job_in s)) (owners_of (job_in s)) 0 [] (blocks_in s) (blocks_of s)
unfolding owners_after
shown-text s = text-shows (ready_of (job_in s)) (owners_of (job_in s)) blocks_most 0 [] (blocks_in s) (omega arith)

text-shown : (s y : List ℕ) → Shows (ready_of (job_in s)) (owners_of (job_in s)) 0 [] (blocks_in s) y → y ≡ blocks_of s
unfolding owners_after
text-shown s y S = shows-text S blocks_most (omega arith)

pub recordings-by-rule : RecordingsByRule replay_text
recordings-by-rule = record {
  written = λ s y r. replays-text r;
  job-refused = refused-text;
  shows = λ s y z. (
    (λ e. subst (λ (w : List ℕ). Shows (ready_of (job_in s)) (owners_of (job_in s)) 0 [] (blocks_in s) w)
        (sym (e ∙ accepted-text s z)) (shown-text s)),
    (λ S. text-shown s y S ∙ sym (accepted-text s z)),
  );
}

pub records-read : RecordsRead block_read job_end
records-read = record {
  block = read-listed;
  job = λ s b e. job-listed s b e;
  columns = read-holds;
  draws = text-draws;
  answers = text-answers;
}
