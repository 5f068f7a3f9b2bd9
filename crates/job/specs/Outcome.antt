-- What a job comes to, said of its file alone: the row of its tests, and what is answered and left. Assumes nothing.
use Rattle.std.specs.Prelude.{◌≡◌, Bool, true, false, cond, List, [], ◌∷◌, ◌++◌, ℕ, ◌≤◌, ◌<◌, eqb, leb, length, get_or, Result, Ok, Err}
use Rattle.paper.specs.Limits.{Test, test_in, test, slots_most}
use Rattle.paper.specs.declared.Refusal.{Refusal}
use Rattle.paper.specs.Count.{all}
use Rattle.paper.specs.Rows.{unless, accepted, refusal_of}
use Rattle.slots.specs.Lent.{slots_ok}
use Rattle.slots.specs.Ranges.{ranges_ok}
use Rattle.slots.specs.Atomic as atomic
use Rattle.units.specs.Settings.{settings_ok}
use Rattle.targets.specs.Figures.{all_figures_ok}
use Rattle.owners.specs.Recount.{available_at}
use Rattle.records.specs.Puts.{put}
use Rattle.job.specs.File.{file_ok}
use Rattle.job.specs.Listing.{refusal_line, listing_of, listing_most}
use Rattle.job.specs.Stages.{counted, block_start, people_of, job_counts_ok, capacities_of, priors_of, settings_in, base_of, ready_of, all_even}
use Rattle.job.specs.Stages.{all_known, written_of, uneven_of, owners_of, listed_of}

-- ---- the tests of a job, in the order in which they are given: 13, then rising

-- of the file and the room
unfoldable pub read_row : Bool → ℕ → ℕ → ℕ → ℕ → Bool → List Test
read_row right base people ranges draws room =
    test 13 right ∷ test 1 (job_counts_ok base people ranges draws) ∷ test 2 room ∷ []

-- of what stands in the file
unfoldable pub prepare_row : List ℕ → List Test
prepare_row s =
    let B = base_of s in
    let R = ready_of s in
    test 3 (slots_ok B.slots B.starts B.ends) ∷ test 4 (ranges_ok B.people B.ranges)
    ∷ test 5 (leb (length (atomic.starts_of_atoms B)) slots_most)
    ∷ test 6 (all_figures_ok (people_of s) (capacities_of s) (priors_of s)) ∷ test 7 (settings_ok (settings_in s))
    ∷ test_in 10 (all_even R.slots R.units R.begins (written_of s)) 3 (uneven_of s) 0
    ∷ test 11 (all_known s (block_start s 5) (counted s 5) R.slots R.people)
    ∷ test 12 (all R.slots (available_at R.avail (owners_of s))) ∷ []

unfoldable pub job_tests : List ℕ → ℕ → List Test
job_tests s room =
    read_row (file_ok s) (counted s 1) (people_of s) (counted s 3) (counted s 6) (leb listing_most room) ++ prepare_row s

-- the number given in the paper's words: the lowest of those that apply, but 13 comes before all
abbrev pub rank : ℕ → ℕ
rank n = cond (eqb n 13) 0 n

abbrev pub test_at : List Test → ℕ → Test
test_at ts k = get_or ts k (test 0 true)

pub record Lowest (ts : List Test) (n : ℕ) : Type 0 where
  pub place : ℕ
  pub within : place < length ts
  pub number : (test_at ts place).number ≡ n
  pub fails : (test_at ts place).passes ≡ false
  pub least : (k : ℕ) → k < length ts → (test_at ts k).passes ≡ false → rank n ≤ rank (test_at ts k).number

abbrev pub AllPass : List Test → Type 0
AllPass ts = (k : ℕ) → k < length ts → (test_at ts k).passes ≡ true

-- ---- the outcome

-- a refusal of a job by its number: 10 is of an uneven unit, part 3, at the lowest; the others name no part
unfoldable pub refusal_at : ℕ → ℕ → Refusal
refusal_at n uneven =
    cond (eqb n 10) (record { number = 10; part = 3; place = uneven; second = 0 })
    (record { number = n; part = 0; place = 0; second = 0 })

-- an answer by its cases: the refusal, of number 0 where there is none; and the length, or `was` where refused
abbrev pub job_refusal : Result ℕ Refusal → Refusal
job_refusal (Ok l) = accepted
job_refusal (Err f) = f

abbrev pub job_length : ℕ → Result ℕ Refusal → ℕ
job_length was (Ok l) = l
job_length was (Err f) = was

pub record Outcome : Type 0 where
  pub answer : Result ℕ Refusal
  pub out : List ℕ

-- a refusal leaves the listing as it was; else it stands at the front
unfoldable pub refused_as : Refusal → List ℕ → Outcome
refused_as f x = record { answer = Err f; out = x }

unfoldable pub listed_as : List ℕ → List ℕ → Outcome
listed_as l x = record { answer = Ok (length l); out = put l 0 x }

unfoldable pub job_result : List ℕ → List ℕ → Outcome
job_result s x =
    let f = refusal_of (job_tests s (length x)) in
    unless f.number (refused_as f x) (listed_as (listing_of (listed_of s)) x)

-- the line of a refusal in a lent buffer; 2 where that is shorter than the line
unfoldable pub refusal_row : Refusal → ℕ → List Test
refusal_row f room = test 2 (leb (length (refusal_line f)) room) ∷ []

unfoldable pub refusal_result : Refusal → List ℕ → Outcome
refusal_result f x =
    let g = refusal_of (refusal_row f (length x)) in unless g.number (refused_as g x) (listed_as (refusal_line f) x)

pub record Ends (y : Outcome) (r : Result ℕ Refusal) (out : List ℕ) : Type 0 where
  pub said : r ≡ y.answer
  pub left : out ≡ y.out
