-- The part that a slot has, of the published owners or of the draft's, and the walk by such parts. Assumes nothing.
use Rattle.std.specs.Prelude.{◌≡◌, Bool, true, not, cond, List, [], ◌∷◌, ◌++◌, ℕ, zero, suc, ◌+◌, ◌-◌, ◌≤◌, ◌<◌, eqb, ltb, leb, length, take, drop, Option, Some, None}
use Rattle.std.specs.Borrow.{Bor}
use Rattle.paper.specs.Limits.{set_words, slot_count_ok, Test, test, number_of}
use Rattle.paper.specs.Rows.{unless}
use Rattle.slotset.specs.Search.{next_with}
use Rattle.slotset.specs.Slots.{slot}

-- ---- the rows of tests, in the paper's order

-- two columns over the same slots, and their frozen flags, 1; 2: columns of unequal length or shorter than the slots, flags below 16 words
unfoldable pub columns_row : ℕ → List ℕ → List ℕ → List ℕ → List Test
columns_row slots published draft frozen =
    test 1 (slot_count_ok slots) ∷ test 2 (eqb (length published) (length draft)) ∷ test 2 (leb slots (length published))
    ∷ test 2 (leb set_words (length frozen)) ∷ []

-- then 11: a slot that is not below the count
unfoldable pub stretch_row : ℕ → List ℕ → List ℕ → List ℕ → ℕ → List Test
stretch_row slots published draft frozen i = columns_row slots published draft frozen ++ (test 11 (ltb i slots) ∷ [])

-- ---- a part: a stretch of one column, from a slot up to another, without that one

pub record Part : Type 0 where
  pub is_published : Bool
  pub from : ℕ
  pub upto : ℕ

-- whether slot i is frozen
unfoldable pub is_frozen : List ℕ → ℕ → Bool
is_frozen frozen i = eqb (slot frozen 0 i) 1

-- the slot found, else the count
abbrev pub found_or : ℕ → Option ℕ → ℕ
found_or slots (Some k) = k
found_or slots None = slots

-- the next change: the first slot after i whose flag is the other one, else the count
unfoldable pub next_change : ℕ → List ℕ → ℕ → ℕ
next_change slots frozen i = found_or slots (next_with (1 - slot frozen 0 i) (slot frozen 0) slots (suc i))

-- the same, said of every slot: up to e the flags are those of slot i, and there they change, or the slots end
pub record EndsAt (slots : ℕ) (frozen : List ℕ) (i e : ℕ) : Type 0 where
  pub later : i < e
  pub within : e ≤ slots
  pub alike : (k : ℕ) → i ≤ k → k < e → is_frozen frozen k ≡ is_frozen frozen i
  pub changes : e < slots → is_frozen frozen e ≡ not (is_frozen frozen i)

-- the part that slot i has: from it up to the next change, published where the slot is frozen
unfoldable pub part_at : ℕ → List ℕ → ℕ → Part
part_at slots frozen i = record { is_published = is_frozen frozen i; from = i; upto = next_change slots frozen i }

-- nothing of the published column
abbrev pub no_part : Part
no_part = record { is_published = true; from = 0; upto = 0 }

-- what is handed back; refused, nothing
unfoldable pub stretch_of : ℕ → List ℕ → List ℕ → List ℕ → ℕ → Part
stretch_of slots published draft frozen i = unless (number_of (stretch_row slots published draft frozen i)) no_part (part_at slots frozen i)

-- the column that a part is of
abbrev pub column_of : {A : Type 0} → Part → A → A → A
column_of p published draft = cond p.is_published published draft

-- the owners in it
abbrev pub owners_of : Part → List ℕ → List ℕ → List ℕ
owners_of p published draft = take (p.upto - p.from) (drop p.from (column_of p published draft))

-- r is that part itself: in the block of its column, so many places on, with these entries
pub record IsPart (p : Part) (published draft r : Bor (List ℕ)) : Type 0 where
  pub block : r.ref_ptr.0 ≡ (column_of p published draft).ref_ptr.0
  pub place : r.ref_ptr.1 ≡ (column_of p published draft).ref_ptr.1 + p.from
  pub entries : r.now ≡ owners_of p published.now draft.now

-- ---- the walk of the list screen: the part of slot 0, and then each time that of the slot where the last one ended

-- at most n parts, from slot `at` on
unfoldable pub parts_from : ℕ → ℕ → List ℕ → ℕ → List Part
parts_from zero slots frozen at = []
parts_from (suc n) slots frozen at =
    cond (ltb at slots) (part_at slots frozen at ∷ parts_from n slots frozen (next_change slots frozen at)) []

-- all of them: so many slots have at most so many parts
abbrev pub all_parts : ℕ → List ℕ → List Part
all_parts slots frozen = parts_from slots slots frozen 0
