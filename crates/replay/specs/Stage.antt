-- The next block of a recording on a lent rota: read, played, shown. What is answered, and what is left. Assumes nothing.
use Rattle.std.specs.Prelude.{◌≡◌, List, ℕ, length, replicate, Result, Ok, Err}
use Rattle.paper.specs.declared.Refusal.{Refusal}
use Rattle.paper.specs.Rows.{unless, refusal_of}
use Rattle.owners.specs.Derived.{Derived}
use Rattle.owners.specs.Entries.{placeless}
use Rattle.rota.specs.declared.replay.Replayed.{Replayed}
use Rattle.rota.specs.declared.replay.Replayed.TheVariants as replayed
use Rattle.rota.specs.Replays as rota
use Rattle.records.specs.Puts.{put}
use Rattle.job.specs.declared.Ending.{Ending}
use Rattle.job.specs.declared.Ending.TheVariants as ending
use Rattle.job.specs.Stages.{Ready, plan_of}
use Rattle.job.specs.Shown.{block_text, block_row}
use Rattle.replay.specs.declared.BlockRead.{BlockRead}
use Rattle.replay.specs.declared.BlockRead.TheVariants as read
use Rattle.replay.specs.declared.Played.{Played}
use Rattle.replay.specs.declared.Played.TheVariants as played
use Rattle.replay.specs.Reading.{block_read, fields_of}

-- the answer, and the lent columns and buffer at exit
pub record Staged : Type 0 where
  pub answer : Played
  pub owners : List ℕ
  pub derived : Derived
  pub out : List ℕ

-- nothing is shown and nothing changes
unfoldable pub ends_with : Ending → List ℕ → Derived → List ℕ → Staged
ends_with e o D x = record { answer = played.Last 0 e; owners = o; derived = D; out = x }

-- a block's text by the owners and the minutes after it
abbrev pub shown_by : ℕ → Ready → List ℕ → Derived → List ℕ
shown_by block R o D = block_text block R.people R.slots R.starts R.ends o D.minutes R.targets

unfoldable pub shown_as : (ℕ → Played) → ℕ → Ready → List ℕ → Derived → List ℕ → Staged
shown_as f block R o D x =
    record { answer = f (length (shown_by block R o D)); owners = o; derived = D; out = put (shown_by block R o D) 0 x }

-- by what the replay of the block answers: y is its outcome, o and D are as before it
abbrev pub played_by : Result Replayed Refusal → ℕ → ℕ → Ready → rota.Outcome → List ℕ → Derived → List ℕ → Staged
played_by (Ok replayed.Agrees) block next R y o D x = shown_as (λ l. played.More l next) block R y.owners y.derived x
played_by (Ok (replayed.Differs p)) block next R y o D x =
    shown_as (λ l. played.Last l (ending.Differs block p)) block R y.owners y.derived x
played_by (Err f) block next R y o D x = ends_with (ending.Refused f) o D x

-- n draws in columns with their recorded answers, where the text has room
unfoldable pub block_stage : ℕ → ℕ → ℕ → List ℕ → List ℕ → List ℕ → List ℕ → Ready → List ℕ → Derived → List ℕ → Staged
block_stage block next n ks fs ss rs R o D x =
    let f = refusal_of (block_row R.people R.slots R.starts R.ends o D.minutes R.targets (length x)) in
    let y = rota.replayed (plan_of R) R.avail R.units R.begins R.frozen n ks fs ss rs o D in
    unless f.number (ends_with (ending.Refused f) o D x) (played_by y.answer block next R y o D x)

-- by what was read
abbrev pub stage_by : Result BlockRead ℕ → List ℕ → ℕ → Ready → List ℕ → Derived → List ℕ → Staged
stage_by (Ok (read.Block n next)) t block R o D x =
    block_stage block next n (fields_of t 4 n (replicate 1024 0)) (fields_of t 6 n (replicate 1024 0)) (fields_of t 8 n (replicate 1024 0))
    (fields_of t 10 n (replicate 1024 0)) R o D x
stage_by (Ok read.End) t block R o D x = ends_with ending.Agrees o D x
stage_by (Err n) t block R o D x = ends_with (ending.Refused (placeless n)) o D x

unfoldable pub stage_of : List ℕ → ℕ → Ready → List ℕ → Derived → List ℕ → Staged
stage_of t block R o D x = stage_by (block_read t block) t block R o D x

-- what is answered and what is left are those of y
pub record StagedAs (y : Staged) (r : Played) (o : List ℕ) (D : Derived) (x : List ℕ) : Type 0 where
  pub answer : r ≡ y.answer
  pub owners : o ≡ y.owners
  pub derived : D ≡ y.derived
  pub out : x ≡ y.out
