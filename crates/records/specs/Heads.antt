-- One record at a place, whatever its kind: what a reader of its head finds. Assumes nothing.
use Rattle.std.specs.Prelude.{Bool, cond, List, ℕ, zero, suc, ◌+◌, take, drop}
use Rattle.records.specs.Fields.{le}
use Rattle.records.specs.Records.{Rec, record_at}
use Rattle.records.specs.declared.Head.{Head}
use Rattle.records.specs.declared.Head.TheVariants as head

-- the record at a place, by the size and the kind that stand there
unfoldable pub found_at : List ℕ → ℕ → Rec
found_at s at = record { kind = le 2 s (at + 2); body = take (le 2 s at) (drop (at + 4) s) }

-- it stands there whole
unfoldable pub whole_at : List ℕ → ℕ → Bool
whole_at s at = record_at s (le 2 s (at + 2)) (le 2 s at) at

-- its size and kind, or nothing
unfoldable pub head_at : List ℕ → ℕ → Head
head_at s at = cond (whole_at s at) (head.Whole (le 2 s at) (le 2 s (at + 2))) head.Nothing

-- where record k begins, the first at 0 and each after the one before it
unfoldable pub place_of : List ℕ → ℕ → ℕ
place_of s zero = 0
place_of s (suc k) = place_of s k + (4 + le 2 s (place_of s k))
