-- A recording's replay, from the bytes of its file to the text: what is written, of the file alone, and by which rule. Assumes nothing.
use Rattle.std.specs.Prelude.{◌≡◌, List, [], map, ◌↔◌, ℕ, ◌<◌, get_or, take, drop, Result, Ok}
use Rattle.paper.specs.Limits.{number_of}
use Rattle.paper.specs.Rows.{refusal_of}
use Rattle.records.specs.Fields.{Bytes}
use Rattle.job.specs.Listing.{refusal_line}
use Rattle.job.specs.Stages.{ready_of, owners_of}
use Rattle.job.specs.Begun.{recorded_tests}
use Rattle.replay.specs.declared.BlockRead.{BlockRead}
use Rattle.replay.specs.Reading.{job_end, ReadsAs}
use Rattle.replay.specs.declared.BlockRead.TheVariants as answer
use Rattle.replay.specs.Listed.{Recorded, recorded_of, BlockFirst, ReadOf, Holds, JobEnds}
use Rattle.replay.specs.Text.{draws_in, recorded_in}
use Rattle.replay.specs.Runs.{Replays}
use Rattle.replay.specs.Rule.{Shows}

-- the job's part of a recording, and what follows it
abbrev pub job_in : List ℕ → List ℕ
job_in s = take (job_end s) s

abbrev pub blocks_in : List ℕ → List ℕ
blocks_in s = drop (job_end s) s

-- the text of every recording, by an account of it that a replay's stages may give
pub record RecordingsByRule (text : List ℕ → List ℕ) : Type 0 where
  -- in whatever pieces the file comes, the stages one after the other write this text and nothing else
  pub written : (s y : List ℕ) → Replays s y → y ≡ text s
  -- a refused job is its line alone
  pub job-refused : (s : List ℕ) → (number_of (recorded_tests (job_in s)) ≡ 0 → ⊥) → text s ≡ refusal_line (refusal_of (recorded_tests (job_in s)))
  -- else the blocks by the rule, each from the job's owners and all draws so far as one list; and no other text is by the rule
  pub shows : (s y : List ℕ) → number_of (recorded_tests (job_in s)) ≡ 0
      → (y ≡ text s) ↔ Shows (ready_of (job_in s)) (owners_of (job_in s)) 0 [] (blocks_in s) y

-- what is read, by the records that stand in the bytes: each answer of a reader exactly where its records stand
pub record RecordsRead (read : List ℕ → ℕ → Result BlockRead ℕ) (end : List ℕ → ℕ) : Type 0 where
  -- a closed block, the end, or the first faulty record by its number: 13 before 1 in one record
  pub block : (t : List ℕ) (blocks : ℕ) → Bytes t → (r : Result BlockRead ℕ) → ReadOf t blocks r ↔ (r ≡ read t blocks)
  -- whole records of other kinds, then a head of kind 8 or 9; else all bytes
  pub job : (s : List ℕ) → Bytes s → (e : ℕ) → JobEnds s e ↔ (e ≡ end s)
  -- a reader that answers with a block leaves its draws and answers in the columns
  pub columns : (t : List ℕ) (blocks n next : ℕ) (B : BlockFirst t blocks n next) (ks fs ss rs ks' fs' ss' rs' : List ℕ)
      → ReadsAs t blocks ks fs ss rs (Ok (answer.Block n next)) ks' fs' ss' rs' → Holds B.draws ks' fs' ss' rs'
  -- and these are what is played, and what its answers are compared with
  pub draws : (t : List ℕ) (blocks n next : ℕ) (B : BlockFirst t blocks n next) → draws_in t n ≡ map (λ (d : Recorded). d.draw) B.draws
  pub answers : (t : List ℕ) (blocks n next : ℕ) (B : BlockFirst t blocks n next) (k : ℕ) → k < n
      → get_or (recorded_in t n) k 0 ≡ (recorded_of B.draws k).answer
