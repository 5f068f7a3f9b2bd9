-- Published and draft side by side: a slot's part is that stretch of that column itself, and the whole of it; a walk by parts shows each
-- slot once, and what publishing makes; publishing changes slots that are not frozen and no other; plays keep the frozen ones.
-- Assumes nothing.
use Rattle.std.specs.Prelude.{◌≡◌, true, false, not, List, [], ◌∷◌, ◌++◌, ℕ, ◌-◌, ◌≤◌, ◌<◌, length, take, drop, get_or}
use Rattle.std.specs.Borrow.{Bor}
use Rattle.paper.specs.Limits.{number_of}
use Rattle.paper.specs.Rows.{answer_as, answer_refusal}
use Rattle.columns.specs.Parts.{columns_row, stretch_row, Part, is_frozen, EndsAt, part_at, stretch_of, column_of, owners_of, IsPart, all_parts}
use Rattle.columns.specs.Publishing.{owner_read, publish_of, show_row, show_of}
use Rattle.boltraven_c.specs.Columns.{part_length}
use Rattle.promises.specs.Entries.{Call, Component, no_of}
use Rattle.promises.specs.Table.{Rule, GivenBy, Refuses}
use Rattle.promises.specs.Tables.{outside, short, broken, not_below}
use Rattle.promises.specs.HoleRule.{slots_from}
use Rattle.promises.specs.Rota.{before, after}

-- ---- demand 1

-- "columns of unequal length are 2", even where both are long enough
abbrev pub columns_table : ℕ → List ℕ → List ℕ → List ℕ → List Rule → List Rule
columns_table slots published draft frozen more =
    outside 1 1024 slots ∷ broken 2 (length published ≡ length draft) ∷ short slots (length published) ∷ short 16 (length frozen) ∷ more

pub record ColumnsRefuse : Type 0 where
  -- "a slot not below the count is 11 (the part is then empty, the number asked for apart)"; which column is told under the same number
  pub stretch : (slots : ℕ) (published draft frozen : List ℕ) (i : ℕ)
      → GivenBy (columns_table slots published draft frozen (not_below i slots ∷ [])) (number_of (stretch_row slots published draft frozen i))
  pub empty : (slots : ℕ) (published draft frozen : List ℕ) (i : ℕ) → (number_of (stretch_row slots published draft frozen i) ≡ 0 → ⊥)
      → owners_of (stretch_of slots published draft frozen i) published draft ≡ []
  pub told : (slots : ℕ) (published draft frozen : List ℕ) (i : ℕ)
      → let n = number_of (stretch_row slots published draft frozen i) in answer_refusal (answer_as n (is_frozen frozen i)) ≡ n
  -- refused, the published column and the list stay as they were
  pub publish : (slots : ℕ) (published draft frozen : List ℕ)
      → Refuses (columns_table slots published draft frozen []) (number_of (columns_row slots published draft frozen)) published
      (publish_of slots draft frozen published)
  pub show : (slots : ℕ) (published draft frozen shown : List ℕ)
      → Refuses (columns_table slots published draft frozen (short slots (length shown) ∷ []))
      (number_of (show_row slots published draft frozen shown)) shown (show_of slots published draft frozen shown)

-- ---- the part of a slot

-- of a call that is accepted
pub record PartRight (slots : ℕ) (published draft frozen : List ℕ) (i : ℕ) (p : Part) : Type 0 where
  -- "published where the slot is frozen, draft where not"
  pub column : p.is_published ≡ is_frozen frozen i
  -- "the stretch from it up to the next change between frozen and not frozen": the whole of it, and no slot past the count
  pub from : p.from ≡ i
  pub ends : EndsAt slots frozen i p.upto
  pub whole : (e : ℕ) → EndsAt slots frozen i e → e ≡ p.upto
  -- its owners are that column's, slot by slot
  pub size : length (owners_of p published draft) ≡ p.upto - i
  pub owners : (k : ℕ) → i ≤ k → k < p.upto → get_or (owners_of p published draft) (k - i) 0 ≡ get_or (column_of p published draft) k 0

pub record StretchByRule : Type 0 where
  pub part : (slots : ℕ) (published draft frozen : List ℕ) (i : ℕ) → number_of (stretch_row slots published draft frozen i) ≡ 0
      → PartRight slots published draft frozen i (stretch_of slots published draft frozen i)
  -- "as a part of the published column or a part of the draft column": the place itself and no copy, so that only one slice fits
  pub itself : (p : Part) (published draft r s : Bor (List ℕ)) → IsPart p published draft r → IsPart p published draft s
      → (r.ref_ptr.0 ≡ s.ref_ptr.0) × (r.ref_ptr.1 ≡ s.ref_ptr.1) × (r.now ≡ s.now)
  -- in C: the length that is written beside the number; refused, it stays
  pub length-told : (was slots : ℕ) (published draft frozen : List ℕ) (i : ℕ) → number_of (stretch_row slots published draft frozen i) ≡ 0
      → part_length was slots published draft frozen i ≡ (stretch_of slots published draft frozen i).upto - i
  pub length-kept : (was slots : ℕ) (published draft frozen : List ℕ) (i : ℕ)
      → (number_of (stretch_row slots published draft frozen i) ≡ 0 → ⊥) → part_length was slots published draft frozen i ≡ was

-- ---- "the list screen walks a rota by such stretches and shows each slot once"

-- the slots of parts in their order, and their owners
abbrev pub part_slots : List Part → List ℕ
part_slots [] = []
part_slots (p ∷ l) = slots_from p.from (p.upto - p.from) ++ part_slots l

abbrev pub part_owners : List Part → List ℕ → List ℕ → List ℕ
part_owners [] published draft = []
part_owners (p ∷ l) published draft = owners_of p published draft ++ part_owners l published draft

-- each part is that of its first slot, and the flags of one and the next are not the same
abbrev pub InTurn : ℕ → List ℕ → List Part → Type 0
InTurn slots frozen [] = Unit
InTurn slots frozen (p ∷ []) = p ≡ part_at slots frozen p.from
InTurn slots frozen (p ∷ q ∷ l) =
    (p ≡ part_at slots frozen p.from) × (p.upto ≡ q.from) × (q.is_published ≡ not p.is_published) × InTurn slots frozen (q ∷ l)

pub record WalkByRule : Type 0 where
  -- all slots below the count, each once, in order
  pub slots : (slots : ℕ) (frozen : List ℕ) → part_slots (all_parts slots frozen) ≡ slots_from 0 slots
  pub parts : (slots : ℕ) (frozen : List ℕ) → InTurn slots frozen (all_parts slots frozen)
  -- what the walk shows is what publishing makes
  pub shows : (slots : ℕ) (published draft frozen : List ℕ) → number_of (columns_row slots published draft frozen) ≡ 0
      → part_owners (all_parts slots frozen) published draft ≡ take slots (publish_of slots draft frozen published)
  -- the list screen is that walk, and entries of the list past the count stay
  pub screen : (slots : ℕ) (published draft frozen shown : List ℕ) → number_of (show_row slots published draft frozen shown) ≡ 0
      → take slots (show_of slots published draft frozen shown) ≡ part_owners (all_parts slots frozen) published draft
  pub past : (slots : ℕ) (published draft frozen shown : List ℕ)
      → drop slots (show_of slots published draft frozen shown) ≡ drop slots shown

-- ---- publishing

pub record PublishByRule : Type 0 where
  -- "copies the draft's owners of slots that aren't frozen into the published column and touches no frozen one"
  pub others : (slots : ℕ) (published draft frozen : List ℕ) → number_of (columns_row slots published draft frozen) ≡ 0
      → (k : ℕ) → k < slots → is_frozen frozen k ≡ false → get_or (publish_of slots draft frozen published) k 0 ≡ get_or draft k 0
  pub frozen : (slots : ℕ) (published draft frozen : List ℕ) (k : ℕ) → is_frozen frozen k ≡ true
      → get_or (publish_of slots draft frozen published) k 0 ≡ get_or published k 0
  -- entries past the count stay, and the column is as long as it was
  pub past : (slots : ℕ) (published draft frozen : List ℕ) (k : ℕ) → slots ≤ k
      → get_or (publish_of slots draft frozen published) k 0 ≡ get_or published k 0
  pub as_long : (slots : ℕ) (published draft frozen : List ℕ) → length (publish_of slots draft frozen published) ≡ length published
  -- twice is once, refused or not; and what is read of each slot is what was read before
  pub twice : (slots : ℕ) (published draft frozen : List ℕ)
      → publish_of slots draft frozen (publish_of slots draft frozen published) ≡ publish_of slots draft frozen published
  pub again : (slots : ℕ) (published draft frozen : List ℕ)
      → number_of (columns_row slots (publish_of slots draft frozen published) draft frozen)
      ≡ number_of (columns_row slots published draft frozen)
  pub reads : (slots : ℕ) (published draft frozen : List ℕ) (k : ℕ)
      → owner_read (publish_of slots draft frozen published) draft frozen k ≡ owner_read published draft frozen k

-- ---- "draws are played on the draft only": the entries of a play take no published column, and a play keeps the frozen part of the draft
-- (demand 3), so that a frozen slot that is alike in both stays so; and what is read of a frozen slot is as before
pub record PlayKeepsRead (C : Component) : Type 0 where
  pub alike : (c : Call) → no_of c ≡ 0 → (published : List ℕ) (k : ℕ) → k < c.plan.slots → is_frozen c.frozen k ≡ true
      → get_or published k 0 ≡ before c k → get_or published k 0 ≡ after C c k
  pub reads : (c : Call) (published : List ℕ) (k : ℕ) → is_frozen c.frozen k ≡ true
      → owner_read published (C.play c).owners c.frozen k ≡ owner_read published c.owners c.frozen k

-- ---- the worked example: six slots, frozen 0, 1 and 4

abbrev pub six_published : List ℕ
six_published = 0 ∷ 1 ∷ 2 ∷ 3 ∷ 0 ∷ 1 ∷ []

abbrev pub six_draft : List ℕ
six_draft = 9 ∷ 9 ∷ 1 ∷ 1 ∷ 255 ∷ 9 ∷ []

abbrev pub six_frozen : List ℕ
six_frozen = 19 ∷ 0 ∷ 0 ∷ 0 ∷ 0 ∷ 0 ∷ 0 ∷ 0 ∷ 0 ∷ 0 ∷ 0 ∷ 0 ∷ 0 ∷ 0 ∷ 0 ∷ 0 ∷ []

abbrev pub six_part : ℕ → Part
six_part i = stretch_of 6 six_published six_draft six_frozen i

abbrev pub six_owners : ℕ → List ℕ
six_owners i = owners_of (six_part i) six_published six_draft

pub record SixSlots : Type 0 where
  pub accepted : number_of (columns_row 6 six_published six_draft six_frozen) ≡ 0
  pub slot-0 : (six_part 0 ≡ record { is_published = true; from = 0; upto = 2 }) × (six_owners 0 ≡ 0 ∷ 1 ∷ [])
  pub slot-1 : (six_part 1 ≡ record { is_published = true; from = 1; upto = 2 }) × (six_owners 1 ≡ 1 ∷ [])
  pub slot-2 : (six_part 2 ≡ record { is_published = false; from = 2; upto = 4 }) × (six_owners 2 ≡ 1 ∷ 1 ∷ [])
  pub slot-3 : (six_part 3 ≡ record { is_published = false; from = 3; upto = 4 }) × (six_owners 3 ≡ 1 ∷ [])
  pub slot-4 : (six_part 4 ≡ record { is_published = true; from = 4; upto = 5 }) × (six_owners 4 ≡ 0 ∷ [])
  pub slot-5 : (six_part 5 ≡ record { is_published = false; from = 5; upto = 6 }) × (six_owners 5 ≡ 9 ∷ [])
  pub slot-6 : (number_of (stretch_row 6 six_published six_draft six_frozen 6) ≡ 11) × (six_owners 6 ≡ [])
  pub longer : (number_of (stretch_row 6 six_published (six_draft ++ (0 ∷ [])) six_frozen 0) ≡ 2)
      × (owners_of (stretch_of 6 six_published (six_draft ++ (0 ∷ [])) six_frozen 0) six_published (six_draft ++ (0 ∷ [])) ≡ [])
  pub walk : part_owners (all_parts 6 six_frozen) six_published six_draft ≡ 0 ∷ 1 ∷ 1 ∷ 1 ∷ 0 ∷ 9 ∷ []
  pub published : publish_of 6 six_draft six_frozen six_published ≡ 0 ∷ 1 ∷ 1 ∷ 1 ∷ 0 ∷ 9 ∷ []
