-- Everybody's runs in one call: the lists of single people, one behind the other, in three columns. Assumes nothing.
use Rattle.std.specs.Prelude.{◌≡◌, List, [], ◌++◌, ℕ, ◌+◌, ◌<◌, length, get_or, Ok}
use Rattle.paper.specs.Limits.{number_of}
use Rattle.slotset.specs.Runs.{ends_of_runs}
use Rattle.slotset.specs.Answers.{row_slots}
use Rattle.slotset.specs.Lists.{every_run_row, every_run, every_run_of}
use Rattle.promises.specs.SetRules.{FrontOf}

pub record EveryRunByRule : Type 0 where
  -- refused, nothing that is lent changes
  pub refused : (ws : List ℕ) (people len : ℕ) (counts firsts lasts : List ℕ)
      → (number_of (every_run_row ws people len (length counts) (length firsts) (length lasts)) ≡ 0 → ⊥)
      → let x = every_run_of ws people len counts firsts lasts in
      (x.counts ≡ counts) × (x.firsts ≡ firsts) × (x.lasts ≡ lasts)
  -- else: how many runs there are, how many each person has, and both ends of each, in order, at the front of two columns
  pub listed : (ws : List ℕ) (people len : ℕ) (counts firsts lasts : List ℕ)
      → number_of (every_run_row ws people len (length counts) (length firsts) (length lasts)) ≡ 0
      → let x = every_run_of ws people len counts firsts lasts in
      let l = every_run ws len people in
      (x.answer ≡ Ok (length l))
      × ((p : ℕ) → p < people → get_or x.counts p 0 ≡ length (ends_of_runs (row_slots ws p) len))
      × FrontOf (λ r. r.first) l firsts x.firsts × FrontOf (λ r. r.last) l lasts x.lasts
  -- the list: nobody has a run, and each person's runs stand behind those of the people before
  pub nobody : (ws : List ℕ) (len : ℕ) → every_run ws len 0 ≡ []
  pub person : (ws : List ℕ) (len p : ℕ) → every_run ws len (p + 1) ≡ every_run ws len p ++ ends_of_runs (row_slots ws p) len
