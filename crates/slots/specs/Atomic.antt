-- Cuts, over minutes; and atomic slots: each base slot split at every cut strictly inside it. Assumes nothing.
use Rattle.std.specs.Prelude.{◌≡◌, Bool, true, false, ◌&&◌, not, List, [], ◌∷◌, ◌++◌, ℕ, zero, suc, ◌<◌, leb, ltb, length, get_or, Result}
use Rattle.paper.specs.Limits.{people_ok, slot_count_ok, slots_most, Test, test, number_of}
use Rattle.paper.specs.Rows.{unless, answer_as}
use Rattle.paper.specs.Count.{some, among, onto}
use Rattle.slots.specs.Lent.{slot_room_ok, slots_ok}
use Rattle.slots.specs.Ranges.{Ranges, range_count_ok, range_room_ok, ranges_ok, in_ranges}

-- yes of one, no of the other
abbrev pub differ : Bool → Bool → Bool
differ true b = not b
differ false b = b

-- whether the minute before t lies in one of the person's ranges; minute 0 has none before it
unfoldable pub lies_before : Ranges → ℕ → ℕ → Bool
lies_before R person zero = false
lies_before R person (suc t) = in_ranges R person t

-- minute t is a cut: some person's coverage differs between the minute before and this one
unfoldable pub is_cut : ℕ → Ranges → ℕ → Bool
is_cut people R t = some people (λ p. differ (lies_before R p t) (in_ranges R p t))

-- a cut past a slot's start
unfoldable pub cut_after : (ℕ → Bool) → ℕ → ℕ → Bool
cut_after cut start t = ltb start t && cut t

-- the cuts strictly inside a slot, ascending
unfoldable pub cuts_in : (ℕ → Bool) → ℕ → ℕ → List ℕ
cuts_in cut start end = among (cut_after cut start) end

-- where the atomic slots of the first n base slots start, and where they end
unfoldable pub atom_starts : (ℕ → Bool) → ℕ → List ℕ → List ℕ → List ℕ
atom_starts cut zero starts ends = []
atom_starts cut (suc n) starts ends =
    atom_starts cut n starts ends ++ (get_or starts n 0 ∷ cuts_in cut (get_or starts n 0) (get_or ends n 0))

unfoldable pub atom_ends : (ℕ → Bool) → ℕ → List ℕ → List ℕ → List ℕ
atom_ends cut zero starts ends = []
atom_ends cut (suc n) starts ends =
    atom_ends cut n starts ends ++ (cuts_in cut (get_or starts n 0) (get_or ends n 0) ++ (get_or ends n 0 ∷ []))

-- the same, said of every minute: c is the ascending list of all cuts strictly between lo and hi, and of nothing else
abbrev pub IsCuts : (ℕ → Bool) → ℕ → List ℕ → ℕ → Type 0
IsCuts cut lo [] hi = (lo < hi) × ((t : ℕ) → lo < t → t < hi → cut t ≡ false)
IsCuts cut lo (x ∷ c) hi = (lo < x) × (cut x ≡ true) × ((t : ℕ) → lo < t → t < x → cut t ≡ false) × IsCuts cut x c hi

-- ---- the outcome

-- what splitting takes: the base slots, the people and their ranges, and the two columns to write
pub record Base : Type 0 where
  pub slots : ℕ
  pub starts : List ℕ
  pub ends : List ℕ
  pub people : ℕ
  pub ranges : Ranges
  pub out_starts : List ℕ
  pub out_ends : List ℕ

abbrev pub base : ℕ → List ℕ → List ℕ → ℕ → Ranges → List ℕ → List ℕ → Base
base n s e p R a b = record { slots = n; starts = s; ends = e; people = p; ranges = R; out_starts = a; out_ends = b }

abbrev pub starts_of_atoms : Base → List ℕ
starts_of_atoms B = atom_starts (is_cut B.people B.ranges) B.slots B.starts B.ends

abbrev pub ends_of_atoms : Base → List ℕ
ends_of_atoms B = atom_ends (is_cut B.people B.ranges) B.slots B.starts B.ends

-- 1 to 4, which are known before the work: the columns to write need room for 1,024 atomic slots
unfoldable pub base_row : Base → List Test
base_row B =
    test 1 (people_ok B.people) ∷ test 1 (slot_count_ok B.slots) ∷ test 1 (range_count_ok B.ranges.count)
    ∷ test 2 (slot_room_ok B.slots B.starts B.ends) ∷ test 2 (range_room_ok B.ranges)
    ∷ test 2 (slot_room_ok slots_most B.out_starts B.out_ends) ∷ test 3 (slots_ok B.slots B.starts B.ends)
    ∷ test 4 (ranges_ok B.people B.ranges) ∷ []

-- and then 5: more than 1,024 atomic slots
unfoldable pub atomise_row : Base → List Test
atomise_row B = base_row B ++ (test 5 (leb (length (starts_of_atoms B)) slots_most) ∷ [])

-- the whole outcome: what is answered, and the two columns at exit
pub record Atoms : Type 0 where
  pub answer : Result ℕ ℕ
  pub starts : List ℕ
  pub ends : List ℕ

unfoldable pub atomise_of : Base → Atoms
atomise_of B =
    let n = number_of (atomise_row B) in
    record {
      answer = answer_as n (length (starts_of_atoms B));
      starts = unless n B.out_starts (onto (starts_of_atoms B) B.out_starts);
      ends = unless n B.out_ends (onto (ends_of_atoms B) B.out_ends);
    }

-- what is answered and what is left in the lent columns are those of the outcome
pub record AtomsEnd (x : Atoms) (r : Result ℕ ℕ) (s e : List ℕ) : Type 0 where
  pub said : r ≡ x.answer
  pub starts : s ≡ x.starts
  pub ends : e ≡ x.ends
