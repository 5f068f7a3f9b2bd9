-- Runs and holes: maximal stretches of slots of one value, both ends named. Assumes nothing.
use Rattle.std.specs.Prelude.{◌≡◌, List, [], ◌∷◌, ◌⊎◌, ℕ, zero, suc, ◌+◌, ◌-◌, ◌≤◌, ◌<◌, Option, Some, None}
use Rattle.slotset.specs.Search.{next_set, next_with, last_below}

-- one past the slot found, or 0: where a stretch starts after the slot of the other value before it
abbrev pub start_of : Option ℕ → ℕ
start_of (Some k) = k + 1
start_of None = 0

-- one before the slot found, or the last slot: where a stretch ends before the slot of the other value after it
abbrev pub end_of : ℕ → Option ℕ → ℕ
end_of len (Some k) = k - 1
end_of len None = len - 1

-- the ends of the stretch around slot i of slots that are v, as it is: at v = 1 the run of a member, at v = 0 the hole of another slot
abbrev pub first_around : ℕ → (ℕ → ℕ) → ℕ → ℕ → ℕ
first_around v f len i = start_of (last_below (1 - v) f len i)

abbrev pub last_around : ℕ → (ℕ → ℕ) → ℕ → ℕ → ℕ
last_around v f len i = end_of len (next_with (1 - v) f len (suc i))

-- first to last is the whole stretch around i of slots that are v
pub record Around (v : ℕ) (f : ℕ → ℕ) (len i first last : ℕ) : Type 0 where
  pub from : first ≤ i
  pub to : i ≤ last
  pub fits : last < len
  pub all : (k : ℕ) → first ≤ k → k ≤ last → f k ≡ v
  pub left : 0 < first → f (first - 1) ≡ 1 - v
  pub right : last + 1 < len → f (last + 1) ≡ 1 - v

-- ---- all runs, as the reader gives them: each from the cursor on, the cursor then one past it

-- a run by its two ends
pub record Ends : Type 0 where
  pub first : ℕ
  pub last : ℕ

-- what follows from the slot found, if one was
abbrev pub when_found : Option ℕ → (ℕ → List Ends) → List Ends
when_found (Some i) g = g i
when_found None g = []

-- at most n runs from the cursor `at` on
unfoldable pub runs : ℕ → (ℕ → ℕ) → ℕ → ℕ → List Ends
runs zero f len at = []
runs (suc n) f len at =
    when_found (next_set f len at)
    (λ lo. record { first = lo; last = last_around 1 f len lo } ∷ runs n f len (last_around 1 f len lo + 1))

-- all of them: a set of len slots has at most len runs
abbrev pub ends_of_runs : (ℕ → ℕ) → ℕ → List Ends
ends_of_runs f len = runs len f len 0

-- l is the list of runs from `at` on: ascending, apart by at least one unset slot, with every member and nothing else
abbrev pub AreRuns : (ℕ → ℕ) → ℕ → ℕ → List Ends → Type 0
AreRuns f len at [] = (k : ℕ) → at ≤ k → k < len → f k ≡ 1 → ⊥
AreRuns f len at (r ∷ rs) =
    (at ≤ r.first) × (r.first ≤ r.last) × (r.last < len)
    × ((k : ℕ) → at ≤ k → k < r.first → f k ≡ 1 → ⊥)
    × ((k : ℕ) → r.first ≤ k → k ≤ r.last → f k ≡ 1)
    × (r.last + 1 < len → f (r.last + 1) ≡ 1 → ⊥)
    × AreRuns f len (r.last + 1) rs

-- k lies in one of the runs of l
abbrev pub InRuns : ℕ → List Ends → Type 0
InRuns k [] = ⊥
InRuns k (r ∷ rs) = ((r.first ≤ k) × (k ≤ r.last)) ⊎ InRuns k rs

-- l has the run with these two ends
abbrev pub Among : ℕ → ℕ → List Ends → Type 0
Among a b [] = ⊥
Among a b (r ∷ rs) = ((r.first ≡ a) × (r.last ≡ b)) ⊎ Among a b rs
