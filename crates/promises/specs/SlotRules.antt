-- Demand 2, slots and availability: each accepted outcome is the one that the paper's section says. Assumes nothing.
use Rattle.std.specs.Prelude.{◌≡◌, true, false, List, ◌⊎◌, ◌↔◌, ℕ, ◌-◌, ◌≤◌, ◌<◌, leb, length, get_or, Ok}
use Rattle.paper.specs.Limits.{number_of}
use Rattle.paper.specs.Count.{sum, count}
use Rattle.slotset.specs.Slots.{slot}
use Rattle.slotset.specs.Answers.{row_slots}
use Rattle.slots.specs.Lent.{slots_ok, demand_of, lent_row, slot_minutes_row, demand_is, slot_minutes_is}
use Rattle.slots.specs.Ranges.{Ranges, in_ranges, available}
use Rattle.slots.specs.Merged.{merged_of, IsMerged, persons_of, starts_of, ends_of, Columns, merged_row, merged_ranges}
use Rattle.slots.specs.Atomic.{Base, atomise_row, atomise_of, starts_of_atoms, ends_of_atoms, is_cut, cuts_in, IsCuts}
use Rattle.slots.specs.Availability.{availability_row, availability_of, is_available}
use Rattle.slots.specs.Freeze.{freeze_row, freeze_of}
use Rattle.promises.specs.SetRules.{TheOne}

-- "Each person's ranges are sorted, empty ones dropped, and touching or overlapping ones merged": the one list that is ascending person by
-- person, with gaps, none empty, and has exactly the ranges' minutes; it is answered, with its number, at the front of the columns
pub record Merged (people : ℕ) (R : Ranges) (out : Columns) : Type 0 where
  pub list : TheOne (IsMerged (in_ranges R)) (merged_of R)
  pub number : (merged_ranges people R out).answer ≡ Ok (length (merged_of R))
  pub persons : (k : ℕ) → k < length (merged_of R) → get_or (merged_ranges people R out).persons k 0 ≡ get_or (persons_of (merged_of R)) k 0
  pub starts : (k : ℕ) → k < length (merged_of R) → get_or (merged_ranges people R out).starts k 0 ≡ get_or (starts_of (merged_of R)) k 0
  pub ends : (k : ℕ) → k < length (merged_of R) → get_or (merged_ranges people R out).ends k 0 ≡ get_or (ends_of (merged_of R)) k 0
  -- past its end the columns stay
  pub past : (k : ℕ) → length (merged_of R) ≤ k
      → (get_or (merged_ranges people R out).persons k 0 ≡ get_or out.persons k 0)
      × (get_or (merged_ranges people R out).starts k 0 ≡ get_or out.starts k 0)
      × (get_or (merged_ranges people R out).ends k 0 ≡ get_or out.ends k 0)

-- "The cuts are all starts and ends of the merged ranges. Each base slot is split at every cut strictly inside it; a cut equal to its start
-- or end does nothing." .. "Atomic lengths add up to base lengths."
pub record Split (B : Base) : Type 0 where
  -- a minute at which some person's coverage differs from the minute before is a start or an end of a merged range, and the other way round
  pub cut : (t : ℕ)
      → (is_cut B.people B.ranges t ≡ true)
      ↔ ((k : ℕ) × (k < length (merged_of B.ranges))
      × ((get_or (starts_of (merged_of B.ranges)) k 0 ≡ t) ⊎ (get_or (ends_of (merged_of B.ranges)) k 0 ≡ t)))
  -- of each base slot, the one list of the cuts strictly inside it; its pieces follow each other from its start to its end
  pub cuts : (k : ℕ) → k < B.slots
      → TheOne (λ c. IsCuts (is_cut B.people B.ranges) (get_or B.starts k 0) c (get_or B.ends k 0))
      (cuts_in (is_cut B.people B.ranges) (get_or B.starts k 0) (get_or B.ends k 0))
  -- the pieces of all of them, in order, are answered with their number at the front of the columns
  pub number : (atomise_of B).answer ≡ Ok (length (starts_of_atoms B))
  pub starts : (k : ℕ) → k < length (starts_of_atoms B) → get_or (atomise_of B).starts k 0 ≡ get_or (starts_of_atoms B) k 0
  pub ends : (k : ℕ) → k < length (starts_of_atoms B) → get_or (atomise_of B).ends k 0 ≡ get_or (ends_of_atoms B) k 0
  -- past their end the columns stay
  pub past : (k : ℕ) → length (starts_of_atoms B) ≤ k
      → (get_or (atomise_of B).starts k 0 ≡ get_or B.out_starts k 0) × (get_or (atomise_of B).ends k 0 ≡ get_or B.out_ends k 0)
  -- they pass the test of lent slots, and their lengths add up
  pub passes : slots_ok (length (starts_of_atoms B)) (atomise_of B).starts (atomise_of B).ends ≡ true
  pub lengths : demand_of (length (starts_of_atoms B)) (atomise_of B).starts (atomise_of B).ends ≡ demand_of B.slots B.starts B.ends
  -- "Otherwise, if the slot comes from a split by these ranges, none of its minutes does."
  pub whole : (k : ℕ) → k < length (starts_of_atoms B) → (p : ℕ)
      → available B.ranges p (get_or (starts_of_atoms B) k 0) (get_or (ends_of_atoms B) k 0) ≡ false
      → (t : ℕ) → get_or (starts_of_atoms B) k 0 ≤ t → t < get_or (ends_of_atoms B) k 0 → in_ranges B.ranges p t ≡ false

-- "Freezing at an instant, any u32, marks each slot whose end is at or before it, clears no mark, and returns how many end by then."
pub record Froze (slots : ℕ) (starts ends frozen : List ℕ) (instant : ℕ) : Type 0 where
  pub marked : (k : ℕ) → k < slots → get_or ends k 0 ≤ instant → slot (freeze_of slots starts ends frozen instant).flags 0 k ≡ 1
  pub kept : (k : ℕ) → (k < slots → get_or ends k 0 ≤ instant → ⊥)
      → slot (freeze_of slots starts ends frozen instant).flags 0 k ≡ slot frozen 0 k
  pub number : (freeze_of slots starts ends frozen instant).answer ≡ Ok (count slots (λ k. leb (get_or ends k 0) instant))

pub record SlotsByRule : Type 0 where
  -- the length of a slot is its end less its start; demand is the sum of all
  pub slot-minutes : (slots : ℕ) (starts ends : List ℕ) (k : ℕ) → number_of (slot_minutes_row slots starts ends k) ≡ 0
      → slot_minutes_is slots starts ends k ≡ Ok (get_or ends k 0 - get_or starts k 0)
  pub demand : (slots : ℕ) (starts ends : List ℕ) → number_of (lent_row slots starts ends) ≡ 0
      → demand_is slots starts ends ≡ Ok (sum slots (λ k. get_or ends k 0 - get_or starts k 0))
  -- a minute lies in one of a person's ranges: it is not before its start, and before its end
  pub lies : (R : Ranges) (p t : ℕ)
      → (in_ranges R p t ≡ true)
      ↔ ((k : ℕ) × (k < R.count) × (get_or R.persons k 0 ≡ p) × (get_or R.starts k 0 ≤ t) × (t < get_or R.ends k 0))
  pub merged : (people : ℕ) (R : Ranges) (out : Columns) → number_of (merged_row people R out) ≡ 0 → Merged people R out
  pub split : (B : Base) → number_of (atomise_row B) ≡ 0 → Split B
  -- "A person is available for a slot exactly when each of its minutes lies in one of their ranges."
  pub available : (people slots : ℕ) (starts ends : List ℕ) (R : Ranges) (words : List ℕ)
      → number_of (availability_row people slots starts ends R words) ≡ 0
      → (p k : ℕ) → p < people → k < slots
      → (is_available people slots (availability_of people slots starts ends R words) p k ≡ (Ok true))
      ↔ ((t : ℕ) → get_or starts k 0 ≤ t → t < get_or ends k 0 → in_ranges R p t ≡ true)
  -- a bit at or past the slot count, and the sets past the people, stay
  pub past : (people slots : ℕ) (starts ends : List ℕ) (R : Ranges) (words : List ℕ)
      → number_of (availability_row people slots starts ends R words) ≡ 0
      → (p k : ℕ) → (p < people → slots ≤ k) → k < 1024
      → row_slots (availability_of people slots starts ends R words) p k ≡ row_slots words p k
  pub frozen : (slots : ℕ) (starts ends frozen : List ℕ) (instant : ℕ) → number_of (freeze_row slots starts ends frozen) ≡ 0
      → Froze slots starts ends frozen instant
