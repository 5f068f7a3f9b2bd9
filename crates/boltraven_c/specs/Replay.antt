-- A recording's job, its blocks as they are read, and a replay of one, as numbers. Assumes nothing.
use Rattle.std.specs.Prelude.{◌≡◌, List, ℕ, Result, Ok, Err}
use Rattle.paper.specs.declared.Refusal.{Refusal}
use Rattle.owners.specs.Derived.{Derived}
use Rattle.rota.specs.declared.replay.Replayed.{Replayed}
use Rattle.rota.specs.declared.replay.Replayed.TheVariants as variant
use Rattle.rota.specs.Replays.{Outcome}
use Rattle.job.specs.Begun.{Lent, Beginning}
use Rattle.replay.specs.declared.BlockRead.{BlockRead}
use Rattle.replay.specs.declared.BlockRead.TheVariants as read
use Rattle.replay.specs.Reading.{read_answer, ReadsAs}
use Rattle.boltraven_c.specs.Numbers.{refusal_number}

-- ---- a replay of a block: 0 where all agree, 65,536 with the place of the first difference, or the refusal

abbrev pub replay_number : Result Replayed Refusal → ℕ
replay_number (Ok variant.Agrees) = 0
replay_number (Ok (variant.Differs p)) = 65536
replay_number (Err f) = refusal_number f

-- the place, beside it; where none is named, what was lent for it stays
abbrev pub replay_place : ℕ → Result Replayed Refusal → ℕ
replay_place was (Ok variant.Agrees) = was
replay_place was (Ok (variant.Differs p)) = p
replay_place was (Err f) = was

-- the number, the rota and the place, of an outcome
pub record ReplayEnds (y : Outcome) (was r : ℕ) (o : List ℕ) (D : Derived) (p : ℕ) : Type 0 where
  pub number : r ≡ replay_number y.answer
  pub owners : o ≡ y.owners
  pub derived : D ≡ y.derived
  pub place : p ≡ replay_place was y.answer

-- ---- the job of a recording: the refusal's number, 0 for none; and what is lent

pub record BeginEnds (y : Beginning) (r : ℕ) (L : Lent) : Type 0 where
  pub number : r ≡ refusal_number y.refusal
  pub left : L ≡ y.left

-- ---- a block as it is read: 0 with its draws' count and where the next begins, 65,536 at the end, or the number of the refusal

abbrev pub block_number : Result BlockRead ℕ → ℕ
block_number (Ok (read.Block n next)) = 0
block_number (Ok read.End) = 65536
block_number (Err k) = k

-- without a block, what was lent for the two stays
abbrev pub block_count : ℕ → Result BlockRead ℕ → ℕ
block_count was (Ok (read.Block n next)) = n
block_count was (Ok read.End) = was
block_count was (Err k) = was

abbrev pub block_next : ℕ → Result BlockRead ℕ → ℕ
block_next was (Ok (read.Block n next)) = next
block_next was (Ok read.End) = was
block_next was (Err k) = was

-- the number, the four columns, and the two
pub record BlockEnds (t : List ℕ) (blocks : ℕ) (ks fs ss rs : List ℕ) (n₀ m₀ r : ℕ) (ks' fs' ss' rs' : List ℕ) (n m : ℕ) : Type 0 where
  pub number : r ≡ block_number (read_answer t blocks ks fs ss rs)
  pub columns : ReadsAs t blocks ks fs ss rs (read_answer t blocks ks fs ss rs) ks' fs' ss' rs'
  pub count : n ≡ block_count n₀ (read_answer t blocks ks fs ss rs)
  pub next : m ≡ block_next m₀ (read_answer t blocks ks fs ss rs)
