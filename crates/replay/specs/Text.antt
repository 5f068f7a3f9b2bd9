-- The text that a recording's replay writes, said of its file alone. Assumes nothing.
use Rattle.std.specs.Prelude.{cond, List, [], ◌++◌, ℕ, zero, suc, ◌-◌, eqb, take, drop, replicate, Result, Ok, Err}
use Rattle.paper.specs.Rows.{unless, refusal_of}
use Rattle.paper.specs.Count.{over}
use Rattle.owners.specs.Derived.{worked}
use Rattle.owners.specs.Entries.{placeless}
use Rattle.rota.specs.Board.{Board}
use Rattle.rota.specs.Lent.{board_of}
use Rattle.rota.specs.Moves.{Draw}
use Rattle.rota.specs.Plays.{draws_of, owners_after}
use Rattle.rota.specs.Replays.{agreeing, block_played}
use Rattle.job.specs.declared.Ending.TheVariants as ending
use Rattle.job.specs.Listing.{refusal_line}
use Rattle.job.specs.Stages.{Ready, ready_of, owners_of, plan_of}
use Rattle.job.specs.Shown.{block_text, last_line}
use Rattle.job.specs.Begun.{recorded_tests}
use Rattle.replay.specs.declared.BlockRead.{BlockRead}
use Rattle.replay.specs.declared.BlockRead.TheVariants as read
use Rattle.replay.specs.Reading.{blocks_most, job_end, block_read, fields_of}

-- the draws of a block of n, and their recorded answers
abbrev pub draws_in : List ℕ → ℕ → List Draw
draws_in t n =
    draws_of (fields_of t 4 n (replicate 1024 0)) (fields_of t 6 n (replicate 1024 0)) (fields_of t 8 n (replicate 1024 0)) n

abbrev pub recorded_in : List ℕ → ℕ → List ℕ
recorded_in t n = fields_of t 10 n (replicate 1024 0)

-- what a job's plays go by, as the rules name it
abbrev pub board_in : Ready → Board
board_in R = board_of R.people R.slots R.units R.avail R.begins R.frozen

-- owners and minutes after a block, the minutes worked out from the owners
abbrev pub shown_text : ℕ → Ready → List ℕ → List ℕ
shown_text block R o =
    block_text block R.people R.slots R.starts R.ends o (over (worked (plan_of R) o) R.people (replicate 32 0)) R.targets

-- by what stands at the front: a block, of n draws and with the next after it; E at the end; R where a record is faulty
abbrev pub text_by : Result BlockRead ℕ → (ℕ → ℕ → List ℕ) → List ℕ
text_by (Ok (read.Block n next)) f = f n next
text_by (Ok read.End) f = last_line ending.Agrees
text_by (Err k) f = last_line (ending.Refused (placeless k))

-- the blocks in t, of which `left` may still come, from a rota of these owners: each is shown as it stands after the draws that are played; the
-- next follows where every answer agrees, else the line of the first that doesn't
unfoldable pub blocks_text : ℕ → Ready → List ℕ → List ℕ → List ℕ
blocks_text zero R o t = text_by (block_read t blocks_most) (λ n next. [])
blocks_text (suc left) R o t =
    let block = blocks_most - suc left in
    text_by (block_read t block) (λ n next.
    let B = board_in R in
    let p = agreeing B o (draws_in t n) (recorded_in t n) in
    let o' = owners_after B o (block_played B o (draws_in t n) (recorded_in t n)) in
    shown_text block R o' ++ cond (eqb p n) (blocks_text left R o' (drop next t)) (last_line (ending.Differs block p)))

-- the line of the job's refusal alone, or the blocks after the job
unfoldable pub replay_text : List ℕ → List ℕ
replay_text s =
    let j = take (job_end s) s in
    let f = refusal_of (recorded_tests j) in
    unless f.number (refusal_line f) (blocks_text blocks_most (ready_of j) (owners_of j) (drop (job_end s) s))
