-- The numbers of the paper, and what is answered of a refusal: `Refusal` by its cases. Assumes nothing.
use Rattle.std.specs.Prelude.{◌≡◌, true, false, List, [], ◌∷◌, ℕ, ◌<◌, length, get_or}
use Rattle.paper.specs.Limits.{people_most, slots_most, ranges_most, draws_most, set_words, last_minute, nobody, Test, test, number_of}
use Rattle.paper.specs.declared.Refusal.{Refusal}
use Rattle.paper.specs.Rows.{accepted, test_refusal, refusal_of}
use Rattle.job.specs.File.{file_most, job_sizes}

-- "Times are whole minutes, 0 to 100,000,000 .. People 1 to 32. Base slots 1 to 1,024 .. ranges in all and draws in a call at most 1,024
-- each. An owner is a byte: a person's number, or 255 for nobody .. always 16 words of u64 to a set."
-- `TestsByRule` and `JobTests` say how each is asked
pub record LimitsByRule : Type 0 where
  pub minutes : last_minute ≡ 100000000
  pub people : people_most ≡ 32
  pub slots : slots_most ≡ 1024
  pub ranges : ranges_most ≡ 1024
  pub draws : draws_most ≡ 1024
  pub owner : nobody ≡ 255
  pub words : set_words ≡ 16
  -- "file at most 49,152 bytes"; the bodies of kinds 1 to 7, by their fields
  pub file : file_most ≡ 49152
  pub sizes : job_sizes ≡ 8 ∷ 8 ∷ 12 ∷ 10 ∷ 4 ∷ 4 ∷ 6 ∷ 0 ∷ []

-- what a row of tests tells: nothing where all pass; else the first that fails, by its number, its part and its places
pub record FaultTold (ts : List Test) (f : Refusal) : Type 0 where
  pub none : ((k : ℕ) → k < length ts → (get_or ts k (test 0 true)).passes ≡ true) → f ≡ accepted
  pub first : (k : ℕ) → k < length ts → (get_or ts k (test 0 true)).passes ≡ false
      → ((j : ℕ) → j < k → (get_or ts j (test 0 true)).passes ≡ true) → f ≡ test_refusal (get_or ts k (test 0 true))
  pub number : f.number ≡ number_of ts

abbrev pub RefusalByCases : Type 0
RefusalByCases = (ts : List Test) → FaultTold ts (refusal_of ts)
