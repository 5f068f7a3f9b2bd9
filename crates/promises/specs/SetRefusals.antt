-- Demand 1 of slot sets, by value and in lent rows: their numbers by their rows of tests, how an answer has its number, and that a refusal
-- changes nothing. Assumes nothing.
use Rattle.std.specs.Prelude.{◌≡◌, Bool, List, ℕ, length}
use Rattle.paper.specs.Limits.{number_of}
use Rattle.slotset.specs.declared.SlotSet.{SlotSet}
use Rattle.slotset.specs.Search.{next_with, last_below}
use Rattle.slotset.specs.Answers.{length_row, slot_row, stretch_row, same_sets_row, person_row, person_stretch_row}
use Rattle.paper.specs.Rows.{answer_refusal, answer_as}
use Rattle.slotset.specs.Answers.{run_as, next_run_as, next_member_as}
use Rattle.slotset.specs.Answers.{new_of, put_of, stretch_of, load_of, store_of, row_stretch_of, cleared_row}
use Rattle.runs.specs.Listed.{runs_row, all_runs_of}
use Rattle.promises.specs.Table.{rules, GivenByTests, Refuses}

pub record SetsRefuse : Type 0 where
  -- the methods that read, and `new`
  pub lengths : (len : ℕ) → GivenByTests (length_row len) (number_of (length_row len))
  pub new : (len : ℕ) → GivenByTests (length_row len) (new_of len).number
  -- insert, remove and the stretches: a set refused is handed back as it was
  pub put : (v : ℕ) (s : SlotSet) (i : ℕ) → Refuses (rules (slot_row s.len i)) (put_of v s i).number s (put_of v s i).set
  pub stretch : (v : ℕ) (s : SlotSet) (a e : ℕ)
      → Refuses (rules (stretch_row s.len a e)) (stretch_of v s a e).number s (stretch_of v s a e).set
  -- the same questions and writes of a person's row, and everybody's sets compared
  pub rows : (ws : List ℕ) (people person len : ℕ) → GivenByTests (person_row ws people person len)
      (number_of (person_row ws people person len))
  pub same-sets : (ws vs : List ℕ) (people len : ℕ) → GivenByTests (same_sets_row ws vs people len) (number_of (same_sets_row ws vs people len))
  pub load : (ws : List ℕ) (people person len : ℕ) → GivenByTests (person_row ws people person len) (load_of ws people person len).number
  pub store : (s : SlotSet) (ws : List ℕ) (people person : ℕ)
      → Refuses (rules (person_row ws people person s.len)) (number_of (person_row ws people person s.len)) ws
      (store_of s ws people person)
  pub put-stretch : (v : ℕ) (ws : List ℕ) (people person len a e : ℕ)
      → Refuses (rules (person_stretch_row ws people person len a e)) (number_of (person_stretch_row ws people person len a e)) ws
      (row_stretch_of v ws people person len a e)
  pub clear : (ws : List ℕ) (people person len : ℕ)
      → Refuses (rules (person_row ws people person len)) (number_of (person_row ws people person len)) ws
      (cleared_row ws people person len)
  -- the list of a person's runs
  pub all_runs : (ws : List ℕ) (people person len : ℕ) (firsts lasts : List ℕ)
      → let x = all_runs_of ws people person len firsts lasts in
      Refuses {A = List ℕ × List ℕ} (rules (runs_row ws people person len (length firsts) (length lasts))) (answer_refusal x.answer)
      (firsts, lasts) (x.firsts, x.lasts)
  -- an answer has the number that it was made with, whatever is asked
  pub found-next : (n v : ℕ) (f : ℕ → ℕ) (len from : ℕ) → answer_refusal (answer_as n (next_with v f len from)) ≡ n
  pub found-last : (n v : ℕ) (f : ℕ → ℕ) (len end : ℕ) → answer_refusal (answer_as n (last_below v f len end)) ≡ n
  pub answered : (n : ℕ) (b : Bool) → answer_refusal (answer_as n b) ≡ n
  pub number : (n k : ℕ) → answer_refusal (answer_as n k) ≡ n
  pub run : (n : ℕ) (f : ℕ → ℕ) (len i : ℕ) → answer_refusal (run_as n f len i) ≡ n
  pub next-run : (n : ℕ) (f : ℕ → ℕ) (len at : ℕ) → answer_refusal (next_run_as n f len at) ≡ n
  pub next-member : (n : ℕ) (f : ℕ → ℕ) (len at : ℕ) → answer_refusal (next_member_as n f len at) ≡ n
