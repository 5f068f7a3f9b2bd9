-- The reader of runs as a whole: what asking it again and again gives is the list of runs, from the first slot on. Assumes nothing.
use Rattle.std.specs.Prelude.{◌≡◌, List, [], ◌∷◌, ◌++◌, map, ℕ, zero, suc, ◌+◌, length, replicate, Result, Ok, Option, Some, None}
use Rattle.std.specs.Borrow.{Bor}
use Rattle.slotset.specs.declared.NextRun.{NextRun}
use Rattle.slotset.specs.Runs.{Ends, ends_of_runs}
use Rattle.slotset.specs.Answers.{row_refusal, row_slots}
use Rattle.runs.specs.declared.Runs.{Runs}
use Rattle.runs.specs.Reader.{reader_of, moved_to, cursor_after, next_of}

-- the reader after one `advance`, and what n of them answer
abbrev pub advanced : Runs → Runs
advanced d = moved_to d (cursor_after (next_of d) d.at)

unfoldable pub answered : ℕ → Runs → List (Result (Option NextRun) ℕ)
answered zero d = []
answered (suc n) d = next_of d ∷ answered n (advanced d)

-- a run as it is answered, the cursor one past it
abbrev pub span_of : Ends → Result (Option NextRun) ℕ
span_of r = Ok (Some (record { first = r.first; last = r.last; next = record { at = r.last + 1 } }))

-- a new reader of a row that isn't refused gives each run once, in order, and is done then, however often it is asked
abbrev pub ReadsAllRuns : Type 0
ReadsAllRuns =
    (words : Bor (List ℕ)) (people person len m : ℕ) → row_refusal words.now people person len ≡ 0
    → let l = ends_of_runs (row_slots words.now person) len in
    answered (length l + m) (reader_of words people person len) ≡ map span_of l ++ replicate m (Ok None)
