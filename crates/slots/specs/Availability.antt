-- Availability of lent slots, one set a person; and its single question. Assumes nothing.
use Rattle.std.specs.Prelude.{List, [], ◌∷◌, ℕ, zero, suc, ◌*◌, leb, ltb, length, get_or, Result, Bool}
use Rattle.paper.specs.Limits.{set_words, people_ok, slot_count_ok, Test, test, number_of}
use Rattle.paper.specs.Rows.{unless, answer_as}
use Rattle.slotset.specs.Slots.{put_slots, value_of, has}
use Rattle.slotset.specs.Answers.{row_slots}
use Rattle.slots.specs.Lent.{slot_room_ok, slots_ok}
use Rattle.slots.specs.Ranges.{Ranges, range_count_ok, range_room_ok, ranges_ok, available}

-- the mark of slot k in a person's set: each minute of the slot lies in one of the person's ranges
unfoldable pub available_bit : Ranges → List ℕ → List ℕ → ℕ → ℕ → ℕ
available_bit R starts ends person k = value_of (available R person (get_or starts k 0) (get_or ends k 0))

-- the words with slot k of each person's set at g's value, for each slot below the count; bits past it stay
unfoldable pub rows : (ℕ → ℕ → ℕ) → ℕ → ℕ → List ℕ → List ℕ
rows g slots zero ws = ws
rows g slots (suc p) ws = put_slots (g p) (set_words * p) 0 slots (rows g slots p ws)

-- 1, 2, 4, 9
unfoldable pub availability_row : ℕ → ℕ → List ℕ → List ℕ → Ranges → List ℕ → List Test
availability_row people slots starts ends R words =
    test 1 (people_ok people) ∷ test 1 (slot_count_ok slots) ∷ test 1 (range_count_ok R.count) ∷ test 2 (slot_room_ok slots starts ends)
    ∷ test 2 (range_room_ok R) ∷ test 2 (leb (set_words * people) (length words)) ∷ test 4 (ranges_ok people R)
    ∷ test 9 (slots_ok slots starts ends) ∷ []

-- the words at exit
unfoldable pub availability_of : ℕ → ℕ → List ℕ → List ℕ → Ranges → List ℕ → List ℕ
availability_of people slots starts ends R words =
    unless (number_of (availability_row people slots starts ends R words)) words (rows (available_bit R starts ends) slots people words)

-- ---- may this person cover this slot

-- 1, 2, and 11: an unknown person or slot
unfoldable pub available_row : ℕ → ℕ → List ℕ → ℕ → ℕ → List Test
available_row people slots words person slot =
    test 1 (people_ok people) ∷ test 1 (slot_count_ok slots) ∷ test 2 (leb (set_words * people) (length words)) ∷ test 11 (ltb person people)
    ∷ test 11 (ltb slot slots) ∷ []

unfoldable pub is_available : ℕ → ℕ → List ℕ → ℕ → ℕ → Result Bool ℕ
is_available people slots words person slot =
    answer_as (number_of (available_row people slots words person slot)) (has (row_slots words person) slots slot)
