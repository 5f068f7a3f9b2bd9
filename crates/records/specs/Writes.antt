-- One record written into a lent buffer. Assumes nothing.
use Rattle.std.specs.Prelude.{Bool, ◌&&◌, cond, List, ℕ, ◌+◌, leb, length}
use Rattle.records.specs.Records.{Rec, bytes_of}
use Rattle.records.specs.Puts.{put}

abbrev pub written : ℕ → List ℕ → Rec
written kind body = record { kind = kind; body = body }

-- the size of its body fits two bytes, and from `at` on there is room for it
unfoldable pub record_fits : Rec → ℕ → List ℕ → Bool
record_fits r at x = leb (length r.body) 65535 && leb (at + (4 + length r.body)) (length x)

-- the buffer with it, or as it was
unfoldable pub with_record : Rec → ℕ → List ℕ → List ℕ
with_record r at x = cond (record_fits r at x) (put (bytes_of r) at x) x
