-- What a replay shows of a recording: a block's text, and the line that ends it. Assumes nothing.
use Rattle.std.specs.Prelude.{List, [], ◌∷◌, ◌++◌, ℕ, leb, ℤ, length}
use Rattle.paper.specs.Limits.{Test, test, people_ok, slot_count_ok}
use Rattle.paper.specs.Rows.{unless, refusal_of}
use Rattle.job.specs.declared.Ending.{Ending}
use Rattle.job.specs.declared.Ending.TheVariants as ending
use Rattle.job.specs.Listing.{digits, head_text, lines, slot_at, person_at, refusal_line, listing_most}
use Rattle.job.specs.Outcome.{Outcome, refused_as, listed_as}

-- B and the block's number, then the lines of slots and people as a listing has them
unfoldable pub block_text : ℕ → ℕ → ℕ → List ℕ → List ℕ → List ℕ → List ℕ → List ℤ → List ℕ
block_text block people slots starts ends owners minutes targets =
    head_text 66 block 10 ++ (lines (slot_at starts ends owners) slots ++ lines (person_at minutes targets) people)

-- E: every answer agrees. X: the block and the place of the first that differs. R: the refusal
unfoldable pub differ_line : ℕ → ℕ → List ℕ
differ_line block place = head_text 88 block 32 ++ (digits place ++ (10 ∷ []))

abbrev pub last_line : Ending → List ℕ
last_line ending.Agrees = 69 ∷ (10 ∷ [])
last_line (ending.Differs block place) = differ_line block place
last_line (ending.Refused f) = refusal_line f

-- ---- written into a lent buffer x

-- 1 of the counts; 2 of each column, and of the buffer, which is asked for a listing's room
unfoldable pub block_row : ℕ → ℕ → List ℕ → List ℕ → List ℕ → List ℕ → List ℤ → ℕ → List Test
block_row people slots starts ends owners minutes targets room =
    test 1 (people_ok people) ∷ test 1 (slot_count_ok slots) ∷ test 2 (leb slots (length starts)) ∷ test 2 (leb slots (length ends))
    ∷ test 2 (leb slots (length owners)) ∷ test 2 (leb people (length minutes)) ∷ test 2 (leb people (length targets))
    ∷ test 2 (leb listing_most room) ∷ []

unfoldable pub block_result : ℕ → ℕ → ℕ → List ℕ → List ℕ → List ℕ → List ℕ → List ℤ → List ℕ → Outcome
block_result block people slots starts ends owners minutes targets x =
    let f = refusal_of (block_row people slots starts ends owners minutes targets (length x)) in
    unless f.number (refused_as f x) (listed_as (block_text block people slots starts ends owners minutes targets) x)

-- 2 where the buffer is shorter than the line
unfoldable pub last_row : Ending → ℕ → List Test
last_row end room = test 2 (leb (length (last_line end)) room) ∷ []

unfoldable pub last_result : Ending → List ℕ → Outcome
last_result end x =
    let f = refusal_of (last_row end (length x)) in unless f.number (refused_as f x) (listed_as (last_line end) x)
