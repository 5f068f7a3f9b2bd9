-- A run of the stages over a recording: however the file comes in pieces. Assumes nothing.
use Rattle.std.specs.Prelude.{◌≡◌, ◌⊎◌, List, [], ◌++◌, ℕ, suc, ◌≤◌, length, take, drop}
use Rattle.owners.specs.Derived.{Derived}
use Rattle.job.specs.declared.Begun.{Begun}
use Rattle.job.specs.declared.Ending.{Ending}
use Rattle.job.specs.declared.Ending.TheVariants as ending
use Rattle.job.specs.Listing.{listing_most}
use Rattle.job.specs.Stages.{Ready}
use Rattle.job.specs.Shown.{last_line}
use Rattle.job.specs.Begun.{BegunAs, ready_from, derived_from}
use Rattle.replay.specs.declared.Played.TheVariants as played
use Rattle.replay.specs.Reading.{job_end}
use Rattle.replay.specs.Stage.{Staged, stage_of}

-- p is a window of a file that goes on with r: all of it, or `least` bytes at least
abbrev pub Window : ℕ → List ℕ → List ℕ → Type 0
Window least p r = (r ≡ []) ⊎ (least ≤ length p)

-- the stage of a block on a window p, with a buffer x that has room for a block's text
abbrev pub staged : Ready → ℕ → List ℕ → Derived → List ℕ → List ℕ → Staged
staged R block o D p x = stage_of p block R o D x

-- what is written while the blocks in t are played one after the other, each on what the one before it left
pub data Writes (R : Ready) : ℕ → List ℕ → Derived → List ℕ → List ℕ → Type 0 where
  last : (block : ℕ) (o : List ℕ) (D : Derived) (p r x : List ℕ) (l : ℕ) (e : Ending) → Window 12300 p r → listing_most ≤ length x
      → (staged R block o D p x).answer ≡ played.Last l e
      → Writes R block o D (p ++ r) (take l (staged R block o D p x).out ++ last_line e)
  more : (block : ℕ) (o : List ℕ) (D : Derived) (p r x : List ℕ) (l next : ℕ) (text : List ℕ) → Window 12300 p r → listing_most ≤ length x
      → (staged R block o D p x).answer ≡ played.More l next
      → Writes R (suc block) (staged R block o D p x).owners (staged R block o D p x).derived (drop next (p ++ r)) text
      → Writes R block o D (p ++ r) (take l (staged R block o D p x).out ++ text)

-- what is written of a file: the job's part of its first window p is handed to the job's stage, which answers b; refused, one line; else the blocks
pub data Replays : List ℕ → List ℕ → Type 0 where
  refused : (p r : List ℕ) (b : Begun) → Window 49156 p r → BegunAs (take (job_end p) p) b → (b.refusal.number ≡ 0 → ⊥)
      → Replays (p ++ r) (last_line (ending.Refused b.refusal))
  begun : (p r : List ℕ) (b : Begun) (text : List ℕ) → Window 49156 p r → BegunAs (take (job_end p) p) b → b.refusal.number ≡ 0
      → Writes (ready_from b) 0 b.owners (derived_from b) (drop (job_end p) (p ++ r)) text → Replays (p ++ r) text
