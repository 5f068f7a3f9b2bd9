-- What a caller is answered and handed back, refused or not. Assumes nothing.
use Rattle.std.specs.Prelude.{Bool, ◌||◌, cond, List, [], ◌∷◌, ◌++◌, ℕ, ◌+◌, ◌-◌, ◌*◌, ◌≤◌, eqb, ltb, leb, length, take, drop, replicate, Option, Some, None, Result}
use Rattle.paper.specs.Count.{all}
use Rattle.paper.specs.Limits.{slots_most, set_words, people_ok, Test, test, number_of}
use Rattle.paper.specs.Rows.{unless, answer_as}
use Rattle.slotset.specs.declared.SlotSet.{SlotSet}
use Rattle.slotset.specs.declared.Changed.{Changed}
use Rattle.slotset.specs.declared.Run.{Run}
use Rattle.slotset.specs.declared.Run.TheVariants as run
use Rattle.slotset.specs.declared.NextRun.{NextRun}
use Rattle.slotset.specs.declared.NextMember.{NextMember}
use Rattle.slotset.specs.Slots.{slot, put_slot, put_slots, has, size, has_no_member, same_slots}
use Rattle.slotset.specs.Search.{next_set, prev_set, next_unset_after, prev_unset_before}
use Rattle.slotset.specs.Runs.{first_around, last_around, Around}

-- ---- the rows of tests, in the paper's order

-- a set by value, 1: a length above 1,024
unfoldable pub length_row : ℕ → List Test
length_row len = test 1 (leb len slots_most) ∷ []

-- then 11: an index to insert or remove that is not below the length
unfoldable pub slot_row : ℕ → ℕ → List Test
slot_row len i = test 1 (leb len slots_most) ∷ test 11 (ltb i len) ∷ []

-- the same of each index from a up to e: a stretch with no index in it names none
unfoldable pub stretch_ok : ℕ → ℕ → ℕ → Bool
stretch_ok len a e = leb e a || leb e len

unfoldable pub stretch_row : ℕ → ℕ → ℕ → List Test
stretch_row len a e = test 1 (leb len slots_most) ∷ test 11 (stretch_ok len a e) ∷ []

-- one lent set: 1, then 2: fewer words than a set has
unfoldable pub set_row : List ℕ → ℕ → List Test
set_row ws len = test 1 (leb len slots_most) ∷ test 2 (leb set_words (length ws)) ∷ []

-- everybody's sets among lent words: 1, then 2: words for fewer sets than people
unfoldable pub sets_row : List ℕ → ℕ → ℕ → List Test
sets_row ws people len = test 1 (people_ok people) ∷ test 1 (leb len slots_most) ∷ test 2 (leb (set_words * people) (length ws)) ∷ []

-- two such columns of words
unfoldable pub same_sets_row : List ℕ → List ℕ → ℕ → ℕ → List Test
same_sets_row ws vs people len = sets_row ws people len ++ (test 2 (leb (set_words * people) (length vs)) ∷ [])

-- a person's row of them, 11: an unknown person; and then 11 of a stretch
unfoldable pub person_row : List ℕ → ℕ → ℕ → ℕ → List Test
person_row ws people person len = sets_row ws people len ++ (test 11 (ltb person people) ∷ [])

unfoldable pub person_stretch_row : List ℕ → ℕ → ℕ → ℕ → ℕ → ℕ → List Test
person_stretch_row ws people person len a e = person_row ws people person len ++ (test 11 (stretch_ok len a e) ∷ [])

-- the numbers given of the last two
abbrev pub row_refusal : List ℕ → ℕ → ℕ → ℕ → ℕ
row_refusal ws people person len = number_of (person_row ws people person len)

abbrev pub row_stretch_refusal : List ℕ → ℕ → ℕ → ℕ → ℕ → ℕ → ℕ
row_stretch_refusal ws people person len a e = number_of (person_stretch_row ws people person len a e)

-- ---- the slots of a set by value, of one lent set, and of a person's row

abbrev pub slots_of : SlotSet → ℕ → ℕ
slots_of s = slot s.words 0

abbrev pub set_slots : List ℕ → ℕ → ℕ
set_slots ws = slot ws 0

abbrev pub row_slots : List ℕ → ℕ → ℕ → ℕ
row_slots ws person = slot ws (16 * person)

-- everybody's sets are the same in two columns of lent words
unfoldable pub same_sets : List ℕ → List ℕ → ℕ → ℕ → Bool
same_sets ws vs people len = all people (λ p. same_slots (row_slots ws p) (row_slots vs p) len)

-- ---- what was asked

-- the stretch around i of slots that are v, of a set with the slots f: a run at v = 1, else a hole
unfoldable pub stretch_as : ℕ → (ℕ → ℕ) → ℕ → ℕ → Run
stretch_as v f len i =
    cond (eqb v 1) (run.Span (first_around v f len i) (last_around v f len i)) (run.Hole (first_around v f len i) (last_around v f len i))

-- the one that holds i, of slots that are what slot i is; at or past the length none does
unfoldable pub run_at : (ℕ → ℕ) → ℕ → ℕ → Run
run_at f len i = cond (ltb i len) (stretch_as (f i) f len i) run.Outside

-- the same, said of every slot: r is the whole stretch that holds i
abbrev pub Holds : (ℕ → ℕ) → ℕ → ℕ → Run → Type 0
Holds f len i (run.Span first last) = Around 1 f len i first last
Holds f len i (run.Hole first last) = Around 0 f len i first last
Holds f len i run.Outside = len ≤ i

-- the run that starts at the slot found, and the cursor one past it
abbrev pub run_step : (ℕ → ℕ) → ℕ → Option ℕ → Option NextRun
run_step f len (Some lo) = Some (record { first = lo; last = last_around 1 f len lo; next = record { at = last_around 1 f len lo + 1 } })
run_step f len None = None

-- the member found, and the cursor one past it
abbrev pub member_step : Option ℕ → Option NextMember
member_step (Some i) = Some (record { at = i; next = record { at = i + 1 } })
member_step None = None

-- the number n, or the run or hole that holds slot i; the next run and the next member from a cursor on
abbrev pub run_as : ℕ → (ℕ → ℕ) → ℕ → ℕ → Result Run ℕ
run_as n f len i = answer_as n (run_at f len i)

abbrev pub next_run_as : ℕ → (ℕ → ℕ) → ℕ → ℕ → Result (Option NextRun) ℕ
next_run_as n f len at = answer_as n (run_step f len (next_set f len at))

abbrev pub next_member_as : ℕ → (ℕ → ℕ) → ℕ → ℕ → Result (Option NextMember) ℕ
next_member_as n f len at = answer_as n (member_step (next_set f len at))

-- of one lent set: the run or the hole that holds slot i; the next member from a cursor on
abbrev pub set_run : List ℕ → ℕ → ℕ → Result Run ℕ
set_run ws len i = run_as (number_of (set_row ws len)) (set_slots ws) len i

abbrev pub set_next_member : List ℕ → ℕ → ℕ → Result (Option NextMember) ℕ
set_next_member ws len at = next_member_as (number_of (set_row ws len)) (set_slots ws) len at

-- of a person's row: the run or the hole that holds slot i; the next run and the next member from a cursor on
abbrev pub row_run : List ℕ → ℕ → ℕ → ℕ → ℕ → Result Run ℕ
row_run ws people person len i = run_as (number_of (person_row ws people person len)) (row_slots ws person) len i

abbrev pub row_next_run : List ℕ → ℕ → ℕ → ℕ → ℕ → Result (Option NextRun) ℕ
row_next_run ws people person len at = next_run_as (number_of (person_row ws people person len)) (row_slots ws person) len at

abbrev pub row_next_member : List ℕ → ℕ → ℕ → ℕ → ℕ → Result (Option NextMember) ℕ
row_next_member ws people person len at = next_member_as (number_of (person_row ws people person len)) (row_slots ws person) len at

-- ---- each question of a set by value: its refusal, or what was asked

abbrev pub len_is : SlotSet → Result ℕ ℕ
len_is s = answer_as (number_of (length_row s.len)) s.len

abbrev pub contains_is : SlotSet → ℕ → Result Bool ℕ
contains_is s i = answer_as (number_of (length_row s.len)) (has (slots_of s) s.len i)

abbrev pub is_empty_is : SlotSet → Result Bool ℕ
is_empty_is s = answer_as (number_of (length_row s.len)) (has_no_member (slots_of s) s.len)

abbrev pub count_is : SlotSet → Result ℕ ℕ
count_is s = answer_as (number_of (length_row s.len)) (size (slots_of s) s.len)

abbrev pub next_set_is : SlotSet → ℕ → Result (Option ℕ) ℕ
next_set_is s from = answer_as (number_of (length_row s.len)) (next_set (slots_of s) s.len from)

abbrev pub prev_set_is : SlotSet → ℕ → Result (Option ℕ) ℕ
prev_set_is s from = answer_as (number_of (length_row s.len)) (prev_set (slots_of s) s.len from)

abbrev pub next_unset_after_is : SlotSet → ℕ → Result (Option ℕ) ℕ
next_unset_after_is s from = answer_as (number_of (length_row s.len)) (next_unset_after (slots_of s) s.len from)

abbrev pub prev_unset_before_is : SlotSet → ℕ → Result (Option ℕ) ℕ
prev_unset_before_is s from = answer_as (number_of (length_row s.len)) (prev_unset_before (slots_of s) s.len from)

abbrev pub run_bounds_is : SlotSet → ℕ → Result Run ℕ
run_bounds_is s i = run_as (number_of (length_row s.len)) (slots_of s) s.len i

abbrev pub next_run_is : SlotSet → ℕ → Result (Option NextRun) ℕ
next_run_is s at = next_run_as (number_of (length_row s.len)) (slots_of s) s.len at

abbrev pub next_member_is : SlotSet → ℕ → Result (Option NextMember) ℕ
next_member_is s at = next_member_as (number_of (length_row s.len)) (slots_of s) s.len at

-- ---- a set handed back: as it was, or the new one

unfoldable pub changed_as : ℕ → SlotSet → SlotSet → Changed
changed_as n old new = record { set = unless n old new; number = n }

abbrev pub empty_set : ℕ → SlotSet
empty_set len = record { words = replicate 16 0; len = len }

-- the empty set of len slots; refused, of none
unfoldable pub new_of : ℕ → Changed
new_of len = changed_as (number_of (length_row len)) (empty_set 0) (empty_set len)

-- slot i at v
unfoldable pub put_of : ℕ → SlotSet → ℕ → Changed
put_of v s i = changed_as (number_of (slot_row s.len i)) s (record { words = put_slot 0 i v s.words; len = s.len })

-- each slot from a up to e at v
unfoldable pub stretch_of : ℕ → SlotSet → ℕ → ℕ → Changed
stretch_of v s a e =
    changed_as (number_of (stretch_row s.len a e)) s (record { words = put_slots (λ _. v) 0 a (e - a) s.words; len = s.len })

-- a person's row as a set; refused, the empty set of none
unfoldable pub load_of : List ℕ → ℕ → ℕ → ℕ → Changed
load_of ws people person len =
    changed_as (number_of (person_row ws people person len)) (empty_set 0) (record { words = take 16 (drop (16 * person) ws); len = len })

-- ---- lent words at exit: as they were, or written

-- the slots of a set below its length, written into a person's row
unfoldable pub store_of : SlotSet → List ℕ → ℕ → ℕ → List ℕ
store_of s ws people person =
    unless (number_of (person_row ws people person s.len)) ws (put_slots (slots_of s) (16 * person) 0 s.len ws)

-- each slot of a person's row from a up to e at v
unfoldable pub row_stretch_of : ℕ → List ℕ → ℕ → ℕ → ℕ → ℕ → ℕ → List ℕ
row_stretch_of v ws people person len a e =
    unless (number_of (person_stretch_row ws people person len a e)) ws (put_slots (λ _. v) (16 * person) a (e - a) ws)

-- a row of which no slot below the length is a member any more
unfoldable pub cleared_row : List ℕ → ℕ → ℕ → ℕ → List ℕ
cleared_row ws people person len = unless (number_of (person_row ws people person len)) ws (put_slots (λ _. 0) (16 * person) 0 len ws)
