-- Freezing at an instant. Assumes nothing.
use Rattle.std.specs.Prelude.{Bool, cond, List, [], ◌∷◌, ℕ, zero, suc, leb, length, get_or, Result}
use Rattle.paper.specs.Limits.{slot_count_ok, set_words, Test, test, number_of}
use Rattle.paper.specs.Rows.{unless, answer_as}
use Rattle.paper.specs.Count.{count}
use Rattle.slotset.specs.Slots.{put_slot}
use Rattle.slots.specs.Lent.{slot_room_ok, slots_ok}

-- slot k ends at the instant or before it
unfoldable pub ends_by : List ℕ → ℕ → ℕ → Bool
ends_by ends instant k = leb (get_or ends k 0) instant

-- how many slots do, whatever was marked before
unfoldable pub ended_by : ℕ → List ℕ → ℕ → ℕ
ended_by slots ends instant = count slots (ends_by ends instant)

-- the flags with a mark at each slot that does; no mark is cleared
unfoldable pub marked : ℕ → List ℕ → ℕ → List ℕ → List ℕ
marked zero ends instant ws = ws
marked (suc n) ends instant ws =
    cond (ends_by ends instant n) (put_slot 0 n 1 (marked n ends instant ws)) (marked n ends instant ws)

-- 1; 2: a column or the flags too short; 9
unfoldable pub freeze_row : ℕ → List ℕ → List ℕ → List ℕ → List Test
freeze_row slots starts ends frozen =
    test 1 (slot_count_ok slots) ∷ test 2 (slot_room_ok slots starts ends) ∷ test 2 (leb set_words (length frozen))
    ∷ test 9 (slots_ok slots starts ends) ∷ []

-- the whole outcome: what is answered, and the flags at exit
pub record Frozen : Type 0 where
  pub answer : Result ℕ ℕ
  pub flags : List ℕ

unfoldable pub freeze_of : ℕ → List ℕ → List ℕ → List ℕ → ℕ → Frozen
freeze_of slots starts ends frozen instant =
    let n = number_of (freeze_row slots starts ends frozen) in
    record { answer = answer_as n (ended_by slots ends instant); flags = unless n frozen (marked slots ends instant frozen) }
