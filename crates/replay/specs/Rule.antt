-- The rule of a replay, beside the text that works it out: each block is shown by the job's owners and all draws so far as one list. Assumes nothing.
use Rattle.std.specs.Prelude.{◌≡◌, true, false, List, [], ◌++◌, ℕ, suc, ◌<◌, take, drop, Ok, Err}
use Rattle.owners.specs.Entries.{placeless}
use Rattle.rota.specs.Moves.{Draw}
use Rattle.rota.specs.Plays.{owners_after}
use Rattle.rota.specs.Replays.{agrees_at}
use Rattle.job.specs.declared.Ending.TheVariants as ending
use Rattle.job.specs.Stages.{Ready}
use Rattle.job.specs.Shown.{last_line}
use Rattle.replay.specs.declared.BlockRead.TheVariants as read
use Rattle.replay.specs.Reading.{block_read}
use Rattle.replay.specs.Text.{draws_in, recorded_in, board_in, shown_text}

-- draw i of the n that stand in t, after all of `so` were played from the owners o, is answered as it was recorded; and it is not
abbrev pub Agrees : Ready → List ℕ → List Draw → List ℕ → ℕ → ℕ → Type 0
Agrees R o so t n i = agrees_at (board_in R) (owners_after (board_in R) o so) (draws_in t n) (recorded_in t n) i ≡ true

abbrev pub Differs : Ready → List ℕ → List Draw → List ℕ → ℕ → ℕ → Type 0
Differs R o so t n i = agrees_at (board_in R) (owners_after (board_in R) o so) (draws_in t n) (recorded_in t n) i ≡ false

-- the block of a number, after all of `so` were played from the owners o
abbrev pub shown_after : ℕ → Ready → List ℕ → List Draw → List ℕ
shown_after block R o so = shown_text block R (owners_after (board_in R) o so)

-- y is written of the blocks in t: `block` are closed before them, o are the job's owners, and `so` is every draw that was played, as one list
pub data Shows (R : Ready) (o : List ℕ) : ℕ → List Draw → List ℕ → List ℕ → Type 0 where
  -- nothing is left
  ends : (block : ℕ) (so : List Draw) (t : List ℕ) → t ≡ [] → Shows R o block so t (last_line ending.Agrees)
  -- a block with a faulty record: nothing of it is played or shown
  refuses : (block : ℕ) (so : List Draw) (t : List ℕ) (k : ℕ) → block_read t block ≡ Err k
      → Shows R o block so t (last_line (ending.Refused (placeless k)))
  -- draw p is the first that is answered otherwise: it is played, later ones aren't
  differs : (block : ℕ) (so : List Draw) (t : List ℕ) (n next p : ℕ) → block_read t block ≡ Ok (read.Block n next) → p < n
      → ((i : ℕ) → i < p → Agrees R o so t n i) → Differs R o so t n p
      → Shows R o block so t (shown_after block R o (so ++ take (suc p) (draws_in t n)) ++ last_line (ending.Differs block p))
  -- every draw is answered as recorded, and the next block follows
  agrees : (block : ℕ) (so : List Draw) (t : List ℕ) (n next : ℕ) (y : List ℕ) → block_read t block ≡ Ok (read.Block n next)
      → ((i : ℕ) → i < n → Agrees R o so t n i) → Shows R o (suc block) (so ++ draws_in t n) (drop next t) y
      → Shows R o block so t (shown_after block R o (so ++ draws_in t n) ++ y)
