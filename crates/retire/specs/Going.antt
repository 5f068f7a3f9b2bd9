-- How much goes: the longest opening stretch of whole units in which every slot is frozen; and its minutes. Assumes nothing.
use Rattle.std.specs.Prelude.{◌≡◌, Bool, true, false, cond, List, ℕ, ◌+◌, ◌≤◌, ◌<◌, eqb, ltb}
use Rattle.paper.specs.Count.{all_in, over}
use Rattle.slotset.specs.Slots.{slot}
use Rattle.units.specs.Units.{unit_start, unit_end}
use Rattle.owners.specs.Derived.{Plan, plan, worked, uncovered}
use Rattle.owners.specs.Recount.{first_fail}
use Rattle.retire.specs.Rolled.{entry}

-- slot k is frozen: the flags are one set
unfoldable pub is_frozen : List ℕ → ℕ → Bool
is_frozen frozen k = eqb (slot frozen 0 k) 1

-- every slot of unit u is
unfoldable pub frozen_whole : ℕ → ℕ → List ℕ → List ℕ → ℕ → Bool
frozen_whole slots units begins frozen u = all_in (unit_start begins u) (unit_end slots units begins u) (is_frozen frozen)

-- how many units go: up to the first that is not frozen whole
unfoldable pub gone_units : ℕ → ℕ → List ℕ → List ℕ → ℕ
gone_units slots units begins frozen = first_fail units (frozen_whole slots units begins frozen)

-- where unit u starts; past the last unit, the slot count
unfoldable pub start_from : ℕ → ℕ → List ℕ → ℕ → ℕ
start_from slots units begins u = cond (ltb u units) (unit_start begins u) slots

-- how many slots go: those before the first unit that stays
unfoldable pub gone_slots : ℕ → ℕ → List ℕ → List ℕ → ℕ
gone_slots slots units begins frozen = start_from slots units begins (gone_units slots units begins frozen)

-- the same, said of every unit: the first r are frozen whole, and there is no next one that is
pub record LongestStretch (slots units : ℕ) (begins frozen : List ℕ) (r : ℕ) : Type 0 where
  pub within : r ≤ units
  pub whole : (u : ℕ) → u < r → frozen_whole slots units begins frozen u ≡ true
  pub stops : r < units → frozen_whole slots units begins frozen r ≡ false

-- ---- the minutes that go

-- the slots that go are the first `gone` of the plan's
abbrev pub going_plan : Plan → ℕ → Plan
going_plan P gone = plan P.people gone P.starts P.ends

-- a person's prior minutes, with what they owned of the slots that go; and the retired total, with what nobody owned of them
unfoldable pub prior_then : Plan → List ℕ → List ℕ → ℕ → ℕ → ℕ
prior_then P o priors gone p = entry priors p + worked (going_plan P gone) o p

unfoldable pub retired_then : Plan → List ℕ → List ℕ → ℕ → ℕ
retired_then P o retired gone = entry retired 0 + uncovered (going_plan P gone) o

-- both lent columns then; entries past the last person, and past the total, stay
unfoldable pub priors_then : Plan → List ℕ → List ℕ → ℕ → List ℕ
priors_then P o priors gone = over (prior_then P o priors gone) P.people priors

unfoldable pub retired_column : Plan → List ℕ → List ℕ → ℕ → List ℕ
retired_column P o retired gone = over (λ _. retired_then P o retired gone) 1 retired
