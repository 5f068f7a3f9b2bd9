-- The whole outcome of a call: the row of its refusals, and what the lent buffer holds then. Assumes nothing.
use Rattle.std.specs.Prelude.{◌≡◌, ℕ, ◌*◌, Bool, cond, not, ◌||◌, List, [], ◌∷◌, ◌++◌, length, drop, ℤ, ◌==◌, nat_le, Float}
use Rattle.paper.specs.Limits.{set_words, people_ok, slot_count_ok, Test, test, number_of}
use Rattle.paper.specs.Rows.{unless}
use Rattle.slots.specs.Lent.{slot_room_ok, slots_ok, demand_of}
use Rattle.targets.specs.declared.Standing.{Standing}
use Rattle.targets.specs.Figures.{all_figures_ok, person_at, standing_of, up_to, available_minutes}
use Rattle.targets.specs.Passes.{Passed, passes_leave, standings_left, guarded}
use Rattle.targets.specs.Remainder.{taker_of}
use Rattle.targets.specs.SecondEdition.{shared_out}

-- what is lent to be read: two counts, the slots' starts and ends, 16 words of availability a person, each person's capacity and prior
-- minutes, the fairness flag, and the rule's edition
pub record Given : Type 0 where
  pub people : ℕ
  pub slots : ℕ
  pub starts : List ℕ
  pub ends : List ℕ
  pub avail : List ℕ
  pub capacities : List Float
  pub priors : List ℕ
  pub fairness : ℕ
  pub edition : ℕ

abbrev pub given : ℕ → ℕ → List ℕ → List ℕ → List ℕ → List Float → List ℕ → ℕ → ℕ → Given
given people slots starts ends avail capacities priors fairness edition = record {
  people = people;
  slots = slots;
  starts = starts;
  ends = ends;
  avail = avail;
  capacities = capacities;
  priors = priors;
  fairness = fairness;
  edition = edition;
}

-- ---- the targets

abbrev pub demand_in : Given → ℕ
demand_in g = demand_of g.slots g.starts g.ends

-- what person k's raw share is taken of: demand (fairness 1), or their available minutes (fairness 0)
abbrev pub base_at : Given → ℕ → ℕ
base_at g k = cond (g.fairness == 1) (demand_in g) (available_minutes g.slots g.starts g.ends g.avail k)

-- person k's standing before the passes, and everybody's in order
abbrev pub standing_in : Given → ℕ → Standing
standing_in g k = standing_of (person_at g.capacities g.priors k) (base_at g k)

abbrev pub standings_in : Given → List Standing
standings_in g = up_to (standing_in g) g.people

-- how the passes stand after all of them, the standings that they leave, and the person to whom edition 1 gives the remainder
abbrev pub passed_in : Given → Passed
passed_in g = passes_leave (demand_in g) (standings_in g)

abbrev pub left_in : Given → List Standing
left_in g = standings_left (passed_in g)

abbrev pub taker_in : Given → ℕ
taker_in g = taker_of (left_in g)

abbrev pub targets_in : Given → List ℤ
targets_in g = shared_out g.edition (demand_in g) (left_in g)

-- ---- what is answered

-- 8 is judged only where 9 doesn't apply: a target has no meaning on slots that break rule 3
unfoldable pub guard_ok : Given → Bool
guard_ok g = not (slots_ok g.slots g.starts g.ends) || guarded (passed_in g)

-- 1, 2: the slots' columns, a set a person, the figures, and room for as many targets as people
unfoldable pub room_row : Given → ℕ → List Test
room_row g room =
    test 1 (people_ok g.people) ∷ test 1 (slot_count_ok g.slots) ∷ test 2 (slot_room_ok g.slots g.starts g.ends)
    ∷ test 2 (nat_le (set_words * g.people) (length g.avail)) ∷ test 2 (nat_le g.people (length g.capacities))
    ∷ test 2 (nat_le g.people (length g.priors)) ∷ test 2 (nat_le g.people room) ∷ []

-- and then 6, 7, 8, 9
unfoldable pub targets_row : Given → ℕ → List Test
targets_row g room =
    room_row g room
    ++ (test 6 (all_figures_ok g.people g.capacities g.priors) ∷ test 7 (nat_le g.fairness 1)
    ∷ test 7 (nat_le g.edition 1) ∷ test 8 (guard_ok g) ∷ test 9 (slots_ok g.slots g.starts g.ends) ∷ [])

-- ---- the outcome

pub record Outcome : Type 0 where
  pub number : ℕ
  pub out : List ℤ

-- the targets, and entries past the people stay; refused, all do
unfoldable pub compute_targets : Given → List ℤ → Outcome
compute_targets g out =
    let n = number_of (targets_row g (length out)) in
    record { number = n; out = unless n out (targets_in g ++ drop g.people out) }

-- the contract: the number given, and the buffer at exit
abbrev pub Meets : Given → List ℤ → ℕ → List ℤ → Type 0
Meets g out r exit = (r ≡ (compute_targets g out).number) × (exit ≡ (compute_targets g out).out)
