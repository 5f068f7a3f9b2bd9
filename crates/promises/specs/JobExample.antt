-- The paper's example of a job, byte by byte, as what `run_job` leaves: so it doesn't always refuse. Assumes nothing.
use Rattle.std.specs.Prelude.{◌≡◌, List, [], ◌∷◌, ◌++◌, ℕ, ◌≤◌, length, drop, Ok}
use Rattle.records.specs.Records.{Rec, file_of}
use Rattle.job.specs.Outcome.{Outcome, job_result}

abbrev pub rec : ℕ → List ℕ → Rec
rec kind body = record { kind = kind; body = body }

-- "Fairness 0, unlocked, every 1, days 1; base 0 to 120; two people, capacity 1, prior 0; ranges 0 to 120 for person 0 and 60 to 180 for
-- person 1; owners 0, 0; draw (0, 1, 1)."
abbrev pub example : List Rec
example =
    rec 1 (0 ∷ 0 ∷ 0 ∷ 0 ∷ 1 ∷ 0 ∷ 1 ∷ 0 ∷ [])
    ∷ rec 2 (0 ∷ 0 ∷ 0 ∷ 0 ∷ 120 ∷ 0 ∷ 0 ∷ 0 ∷ [])
    ∷ rec 3 (0 ∷ 0 ∷ 0 ∷ 0 ∷ 0 ∷ 0 ∷ 240 ∷ 63 ∷ 0 ∷ 0 ∷ 0 ∷ 0 ∷ [])
    ∷ rec 3 (0 ∷ 0 ∷ 0 ∷ 0 ∷ 0 ∷ 0 ∷ 240 ∷ 63 ∷ 0 ∷ 0 ∷ 0 ∷ 0 ∷ [])
    ∷ rec 4 (0 ∷ 0 ∷ 0 ∷ 0 ∷ 0 ∷ 0 ∷ 120 ∷ 0 ∷ 0 ∷ 0 ∷ [])
    ∷ rec 4 (1 ∷ 0 ∷ 60 ∷ 0 ∷ 0 ∷ 0 ∷ 180 ∷ 0 ∷ 0 ∷ 0 ∷ [])
    ∷ rec 6 (0 ∷ 0 ∷ 0 ∷ 0 ∷ [])
    ∷ rec 6 (1 ∷ 0 ∷ 0 ∷ 0 ∷ [])
    ∷ rec 7 (0 ∷ 0 ∷ 1 ∷ 0 ∷ 1 ∷ 0 ∷ []) ∷ []

-- S 0 0 60 0; S 1 60 120 1; P 0 60 80; P 1 60 40; D 0 A; U 0
abbrev pub example_text : List ℕ
example_text =
    83 ∷ 32 ∷ 48 ∷ 32 ∷ 48 ∷ 32 ∷ 54 ∷ 48 ∷ 32 ∷ 48 ∷ 10
    ∷ 83 ∷ 32 ∷ 49 ∷ 32 ∷ 54 ∷ 48 ∷ 32 ∷ 49 ∷ 50 ∷ 48 ∷ 32 ∷ 49 ∷ 10
    ∷ 80 ∷ 32 ∷ 48 ∷ 32 ∷ 54 ∷ 48 ∷ 32 ∷ 56 ∷ 48 ∷ 10
    ∷ 80 ∷ 32 ∷ 49 ∷ 32 ∷ 54 ∷ 48 ∷ 32 ∷ 52 ∷ 48 ∷ 10
    ∷ 68 ∷ 32 ∷ 48 ∷ 32 ∷ 65 ∷ 10
    ∷ 85 ∷ 32 ∷ 48 ∷ 10 ∷ []

-- whatever buffer is lent that has room: the listing at its front, its length, and past it the buffer as it was
abbrev pub JobExample : Type 0
JobExample = (x : List ℕ) → 65536 ≤ length x
    → ◌≡◌ {A = Outcome} (job_result (file_of example) x) (record { answer = Ok 54; out = example_text ++ drop 54 x })
