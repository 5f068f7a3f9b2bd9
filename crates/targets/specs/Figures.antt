-- A person's figures, rule 6 of them, their available minutes, and the standing that the passes keep of each person. Assumes nothing.
use Rattle.std.specs.Prelude.{ℕ, zero, suc, Bool, true, false, cond, ◌&&◌, List, [], ◌∷◌, ◌++◌, get_or, pos, ◌==◌, nat_le, Float}
use Rattle.std.specs.Float.{nan, fin, binary64}
use Rattle.std.specs.Float.Ieee.{mul, le, of_int}
use Rattle.paper.specs.Limits.{last_minute}
use Rattle.paper.specs.Count.{all, sum}
use Rattle.slotset.specs.Answers.{row_slots}
use Rattle.slots.specs.Lent.{minutes_at}
use Rattle.targets.specs.declared.Person.{Person}
use Rattle.targets.specs.declared.Standing.{Standing}

abbrev pub zero_f : Float
zero_f = fin false 0 (pos 0)

-- a whole number as an f64
abbrev pub whole : ℕ → Float
whole n = of_int binary64 (pos n)

-- ---- figures

-- person k, from the lent columns
abbrev pub person_at : List Float → List ℕ → ℕ → Person
person_at capacities priors k = record { capacity = get_or capacities k nan; prior = get_or priors k 0 }

-- rule 6, passed: capacity is a number, not below 0 and not above 1,000; prior minutes are not above 100,000,000
unfoldable pub figures_ok : Person → Bool
figures_ok p = le zero_f p.capacity && (le p.capacity (whole 1000) && nat_le p.prior last_minute)

-- of person k, and of everybody
abbrev pub figures_ok_at : List Float → List ℕ → ℕ → Bool
figures_ok_at capacities priors k = figures_ok (person_at capacities priors k)

unfoldable pub all_figures_ok : ℕ → List Float → List ℕ → Bool
all_figures_ok people capacities priors = all people (figures_ok_at capacities priors)

-- ---- available minutes: a person's availability is a slot set, always 16 words, in person order

-- the minutes of slot k, if the person is available for it
abbrev pub minutes_if_available : List ℕ → List ℕ → List ℕ → ℕ → ℕ → ℕ
minutes_if_available starts ends avail person k = cond (row_slots avail person k == 1) (minutes_at starts ends k) 0

-- a person's available minutes: the lengths of the slots that they are available for
unfoldable pub available_minutes : ℕ → List ℕ → List ℕ → List ℕ → ℕ → ℕ
available_minutes slots starts ends avail person = sum slots (minutes_if_available starts ends avail person)

-- ---- standings

-- raw share: capacity times the base, which is demand or the person's available minutes. Target 0 at first, nobody pinned
abbrev pub standing_of : Person → ℕ → Standing
standing_of p base = record { person = p; raw = mul binary64 p.capacity (whole base); target = 0; pinned = false }

-- what f gives each number below n, in order
abbrev pub up_to {ℓ} : {A : Type ℓ} → (ℕ → A) → ℕ → List A
up_to f zero = []
up_to f (suc k) = up_to f k ++ (f k ∷ [])

-- a standing that takes no part: arrays by value are filled up with it
abbrev pub pad : Standing
pad = record { person = record { capacity = zero_f; prior = 0 }; raw = zero_f; target = 0; pinned = true }
