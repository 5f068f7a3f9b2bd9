-- What a caller is answered of each entry, and what the lent columns hold then. Assumes nothing.
use Rattle.std.specs.Prelude.{◌≡◌, ℕ, ◌*◌, Bool, true, cond, List, [], ◌∷◌, ◌++◌, length, replicate, nat_le, nat_lt, slice_index, Result}
use Rattle.paper.specs.Limits.{people_ok, slot_count_ok, nobody, Test, test, number_of}
use Rattle.paper.specs.declared.Refusal.{Refusal}
use Rattle.paper.specs.Rows.{unless, answer_as}
use Rattle.paper.specs.Count.{all, fill}
use Rattle.slotset.specs.declared.Changed.{Changed}
use Rattle.slotset.specs.Answers.{load_of}
use Rattle.slots.specs.Lent.{slot_room_ok, slots_ok}
use Rattle.units.specs.Units.{units_ok}
use Rattle.owners.specs.Derived.{Plan, Derived, known_by, afresh, unassigned, uncovered}
use Rattle.owners.specs.Recount.{known_at, available_at, recount_tests}

-- ---- the tests that come first

-- 1, 2 and 9 of what a rota is lent in; counts and room are what a caller asks besides of rules 1 and 2
unfoldable pub lent_row : Bool → Bool → Plan → List ℕ → List ℕ → Derived → List Test
lent_row counts room P avail o D =
    test 1 (people_ok P.people) ∷ test 1 (slot_count_ok P.slots) ∷ test 1 counts
    ∷ test 2 (slot_room_ok P.slots P.starts P.ends) ∷ test 2 (nat_le (16 * P.people) (length avail))
    ∷ test 2 (nat_le P.slots (length o)) ∷ test 2 (nat_le (16 * P.people) (length D.sets))
    ∷ test 2 (nat_le P.people (length D.minutes)) ∷ test 2 (nat_le 2 (length D.totals)) ∷ test 2 room
    ∷ test 9 (slots_ok P.slots P.starts P.ends) ∷ []

-- ---- the recount, with units and without: 1, 2, 9, 10

unfoldable pub recount_row : Bool → Bool → Plan → List ℕ → ℕ → List ℕ → List ℕ → Derived → List Test
recount_row counts room P avail units begins o D =
    lent_row counts room P avail o D ++ (test 9 (units_ok P.slots units begins) ∷ recount_tests P avail units begins o D)

unfoldable pub recount_slots_row : Plan → List ℕ → List ℕ → Derived → List Test
recount_slots_row P avail o D = lent_row true true P avail o D ++ recount_tests P avail 0 [] o D

-- ---- an outcome: the refusal, and the lent columns at exit

pub record Outcome : Type 0 where
  pub refusal : Refusal
  pub owners : List ℕ
  pub derived : Derived
  pub answers : List ℕ

-- a refusal that names no part and no place
abbrev pub placeless : ℕ → Refusal
placeless n = record { number = n; part = 0; place = 0; second = 0 }

-- a refusal changes nothing
unfoldable pub outcome : Refusal → List ℕ → Derived → List ℕ → List ℕ → Derived → List ℕ → Outcome
outcome f o D x o' D' x' =
    record {
      refusal = f;
      owners = unless f.number o o';
      derived = unless f.number D D';
      answers = unless f.number x x';
    }

-- what is answered and what is left are those of the outcome
pub record Ended (y : Outcome) (f : Refusal) (o : List ℕ) (D : Derived) (x : List ℕ) : Type 0 where
  pub refusal : f ≡ y.refusal
  pub owners : o ≡ y.owners
  pub derived : D ≡ y.derived
  pub answers : x ≡ y.answers

-- ---- from_slots: 1, 2, 9, 11 for an unknown owner, 12 for one who is not available

unfoldable pub from_slots_row : Plan → List ℕ → List ℕ → Derived → List Test
from_slots_row P avail o D =
    lent_row true true P avail o D
    ++ (test 11 (all P.slots (known_at P.people o)) ∷ test 12 (all P.slots (available_at avail o)) ∷ [])

unfoldable pub from_slots : Plan → List ℕ → List ℕ → Derived → Outcome
from_slots P avail o D = outcome (placeless (number_of (from_slots_row P avail o D))) o D [] o (afresh P o D) []

-- ---- an empty rota: 1, 2, 9

unfoldable pub empty_row : Plan → List ℕ → Derived → List Test
empty_row P o D =
    test 1 (people_ok P.people) ∷ test 1 (slot_count_ok P.slots) ∷ test 2 (slot_room_ok P.slots P.starts P.ends)
    ∷ test 2 (nat_le P.slots (length o)) ∷ test 2 (nat_le (16 * P.people) (length D.sets))
    ∷ test 2 (nat_le P.people (length D.minutes)) ∷ test 2 (nat_le 2 (length D.totals))
    ∷ test 9 (slots_ok P.slots P.starts P.ends) ∷ []

-- owners nobody, and what is derived from that
unfoldable pub emptied : Plan → List ℕ → Derived → Outcome
emptied P o D =
    let none = fill nobody 0 P.slots o in
    outcome (placeless (number_of (empty_row P o D))) o D [] none (afresh P none D) []

-- ---- readers: the number of the refusal, or what was asked

-- the owner of a slot: 1, 2, 11
unfoldable pub owner_row : ℕ → ℕ → List ℕ → ℕ → List Test
owner_row people slots o k =
    test 1 (people_ok people) ∷ test 1 (slot_count_ok slots) ∷ test 2 (nat_le slots (length o)) ∷ test 11 (nat_lt k slots)
    ∷ test 11 (known_by people (slice_index o k)) ∷ []

unfoldable pub owner_is : ℕ → ℕ → List ℕ → ℕ → Result ℕ ℕ
owner_is people slots o k = answer_as (number_of (owner_row people slots o k)) (slice_index o k)

-- a person's minutes: 1, 2, 11
unfoldable pub minutes_row : ℕ → List ℕ → ℕ → List Test
minutes_row people m p = test 1 (people_ok people) ∷ test 2 (nat_le people (length m)) ∷ test 11 (nat_lt p people) ∷ []

unfoldable pub minutes_is : ℕ → List ℕ → ℕ → Result ℕ ℕ
minutes_is people m p = answer_as (number_of (minutes_row people m p)) (slice_index m p)

-- how many slots nobody owns: 1, 2, 11 for an unknown owner
unfoldable pub unassigned_row : ℕ → ℕ → List ℕ → List Test
unassigned_row people slots o =
    test 1 (people_ok people) ∷ test 1 (slot_count_ok slots) ∷ test 2 (nat_le slots (length o)) ∷ test 11 (all slots (known_at people o)) ∷ []

unfoldable pub unassigned_is : ℕ → ℕ → List ℕ → Result ℕ ℕ
unassigned_is people slots o = answer_as (number_of (unassigned_row people slots o)) (unassigned slots o)

-- the minutes that nobody owns: 1, 2, 9, 11
unfoldable pub uncovered_row : Plan → List ℕ → List Test
uncovered_row P o =
    test 1 (people_ok P.people) ∷ test 1 (slot_count_ok P.slots) ∷ test 2 (slot_room_ok P.slots P.starts P.ends)
    ∷ test 2 (nat_le P.slots (length o)) ∷ test 9 (slots_ok P.slots P.starts P.ends)
    ∷ test 11 (all P.slots (known_at P.people o)) ∷ []

unfoldable pub uncovered_is : Plan → List ℕ → Result ℕ ℕ
uncovered_is P o = answer_as (number_of (uncovered_row P o)) (uncovered P o)

-- a person's slots, as a set by value: 1, 2, 11; refused, the empty set of no slots
unfoldable pub slots_of_is : ℕ → ℕ → List ℕ → ℕ → Changed
slots_of_is people slots ws p =
    cond (slot_count_ok slots) (load_of ws people p slots)
    (record { set = record { words = replicate 16 0; len = 0 }; number = 1 })
