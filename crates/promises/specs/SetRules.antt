-- Demand 2, slot sets: each answer is the one that the paper's section says. A set is its slots, as a function f, and a length, so
-- each fact is said once for sets by value and for lent rows, over every length. Assumes nothing.
use Rattle.std.specs.Prelude.{◌≡◌, List, [], ◌∷◌, ◌↔◌, ℕ, suc, ◌+◌, ◌-◌, ◌*◌, ◌/◌, ◌%◌, ◌≤◌, ◌<◌, eqb, length, get_or, Ok, true, false, Option, Some, None, IsOkAnd}
use Rattle.paper.specs.Bits.{bit_of}
use Rattle.paper.specs.Count.{among}
use Rattle.paper.specs.Limits.{number_of}
use Rattle.slotset.specs.declared.SlotSet.{SlotSet}
use Rattle.slotset.specs.declared.Run.TheVariants.{Span, Hole, Outside}
use Rattle.slotset.specs.declared.NextRun.{NextRun}
use Rattle.slotset.specs.Slots.{Bits, Member, has, size, has_no_member, slot}
use Rattle.slotset.specs.Search.{next_with, last_below, next_set, prev_set, next_unset_after, prev_unset_before, First, Last}
use Rattle.slotset.specs.Runs.{Ends, ends_of_runs, AreRuns, InRuns, Among}
use Rattle.slotset.specs.Answers.{length_row, slot_row, stretch_row, person_row, person_stretch_row, slots_of, row_slots, same_sets}
use Rattle.slotset.specs.Answers.{run_as, Holds, next_run_as, next_member_as, new_of, put_of, stretch_of, load_of}
use Rattle.paper.specs.Rows.{answer_as}
use Rattle.slotset.specs.Answers.{store_of, row_stretch_of, cleared_row}
use Rattle.runs.specs.Listed.{runs_row, all_runs_of}

-- x meets a statement, and nothing else does
pub record TheOne {A : Type 0} (Meets : A → Type 0) (x : A) : Type 0 where
  pub meets : Meets x
  pub only : (y : A) → Meets y → y ≡ x

-- what a write to the n slots from `from` on leaves: the values v there, and no other slot changed
pub record Put (v : ℕ → ℕ) (from n : ℕ) (before after : ℕ → ℕ) : Type 0 where
  pub here : (k : ℕ) → k < n → after (from + k) ≡ v k
  pub elsewhere : (i : ℕ) → (from ≤ i → i < from + n → ⊥) → after i ≡ before i

-- a set handed back: its length is as it was
pub record Changes (v : ℕ → ℕ) (from n : ℕ) (s t : SlotSet) : Type 0 where
  pub same_length : t.len ≡ s.len
  pub put : Put v from n (slots_of s) (slots_of t)

-- what a reader answers that has these runs ahead of it: the first of them, with its cursor one past it
abbrev pub first_ahead : List Ends → Option NextRun
first_ahead [] = None
first_ahead (r ∷ rs) = Some (record { first = r.first; last = r.last; next = record { at = r.last + 1 } })

-- one end of each run of a list at the front of a column, in order, and past them the column as it was
pub record FrontOf (end : Ends → ℕ) (l : List Ends) (before after : List ℕ) : Type 0 where
  pub each : (k : ℕ) (none : Ends) → k < length l → get_or after k 0 ≡ end (get_or l k none)
  pub past : (k : ℕ) → length l ≤ k → get_or after k 0 ≡ get_or before k 0

-- two sets of one length have the same answers
pub record SameAnswers (f g : ℕ → ℕ) (len : ℕ) : Type 0 where
  pub contains : (i : ℕ) → has f len i ≡ has g len i
  pub is-empty : has_no_member f len ≡ has_no_member g len
  pub count : size f len ≡ size g len
  pub next : (v from : ℕ) → next_with v f len from ≡ next_with v g len from
  pub prev : (v end : ℕ) → last_below v f len end ≡ last_below v g len end
  pub run : (n i : ℕ) → run_as n f len i ≡ run_as n g len i
  pub next-run : (n at : ℕ) → next_run_as n f len at ≡ next_run_as n g len at
  pub next-member : (n at : ℕ) → next_member_as n f len at ≡ next_member_as n g len at
  pub runs : ends_of_runs f len ≡ ends_of_runs g len

pub record SetsByRule : Type 0 where
  -- "Slot i is bit i mod 64 of word i div 64": of a set by value, and of a person's row, "always 16 words of u64 to a set"
  pub bit : (s : SlotSet) (i : ℕ) → slots_of s i ≡ bit_of (get_or s.words (i / 64) 0) (i % 64)
  pub row-bit : (ws : List ℕ) (person i : ℕ) → row_slots ws person i ≡ bit_of (get_or ws (16 * person + i / 64) 0) (i % 64)
  -- "Membership past the length is no"
  pub contains : (f : ℕ → ℕ) (len i : ℕ) → Member f len i → answer_as 0 (has f len i) ≡ (Ok true)
  pub contains-not : (f : ℕ → ℕ) (len i : ℕ) → (Member f len i → ⊥) → answer_as 0 (has f len i) ≡ (Ok false)
  -- is_empty
  pub empty : (f : ℕ → ℕ) → Bits f → (len : ℕ) → ((i : ℕ) → Member f len i → ⊥) → answer_as 0 (has_no_member f len) ≡ (Ok true)
  pub empty-not : (f : ℕ → ℕ) (len i : ℕ) → Member f len i → answer_as 0 (has_no_member f len) ≡ (Ok false)
  -- "`next_set` from the length or beyond finds nothing": the first member at or after `from` and below the length, or none
  pub next : (f : ℕ → ℕ) (len from : ℕ) → TheOne (λ r. IsOkAnd r (First 1 f len from)) (answer_as 0 (next_set f len from))
  -- "`prev_set` first lowers its start to length - 1; length 0 finds nothing": the last at or before `from` and below the length, or none
  pub prev : (f : ℕ → ℕ) (len from : ℕ) → TheOne (λ r. IsOkAnd r (Last 1 f len (suc from))) (answer_as 0 (prev_set f len from))
  -- the same of slots that are not in the set, after an index and before it
  pub next-unset : (f : ℕ → ℕ) (len from : ℕ) → TheOne (λ r. IsOkAnd r (First 0 f len (suc from))) (answer_as 0 (next_unset_after f len from))
  pub prev-unset : (f : ℕ → ℕ) (len from : ℕ) → TheOne (λ r. IsOkAnd r (Last 0 f len from)) (answer_as 0 (prev_unset_before f len from))
  -- "A run is a maximal stretch of set indexes with both ends named; one that reaches the end ends at length - 1." The lookup answers
  -- "three ways: the run that holds the index, the maximal unset stretch that holds it, or outside"
  pub run : (f : ℕ → ℕ) → Bits f → (len i : ℕ) → TheOne (λ r. IsOkAnd r (Holds f len i)) (run_as 0 f len i)
  pub is-run : (f : ℕ → ℕ) → Bits f → (len i : ℕ) → ((a : ℕ) × (b : ℕ) × (run_as 0 f len i ≡ Ok (Span a b))) ↔ Member f len i
  pub is-hole : (f : ℕ → ℕ) → Bits f → (len i : ℕ) → ((a : ℕ) × (b : ℕ) × (run_as 0 f len i ≡ Ok (Hole a b))) ↔ ((i < len) × (f i ≡ 0))
  pub is-outside : (f : ℕ → ℕ) → Bits f → (len i : ℕ) → (run_as 0 f len i ≡ Ok Outside) ↔ (len ≤ i)
  -- "The stretch of an empty set is the whole of it; length 0 knows only outside."
  pub empty-hole : (f : ℕ → ℕ) → Bits f → (len i : ℕ) → ((k : ℕ) → Member f len k → ⊥) → i < len → run_as 0 f len i ≡ Ok (Hole 0 (len - 1))
  pub no-slots : (f : ℕ → ℕ) (i : ℕ) → run_as 0 f 0 i ≡ Ok Outside
  -- the readers of runs and of members, from any place of their cursor on
  pub next-run : (f : ℕ → ℕ) → Bits f → (len at : ℕ) (l : List Ends) → AreRuns f len at l → next_run_as 0 f len at ≡ Ok (first_ahead l)
  pub next-member : (f : ℕ → ℕ) (len at i : ℕ) → First 1 f len at (Some i)
      → next_member_as 0 f len at ≡ Ok (Some (record { at = i; next = record { at = i + 1 } }))
  pub no_member : (f : ℕ → ℕ) (len at : ℕ) → First 1 f len at None → next_member_as 0 f len at ≡ Ok None
  -- "Runs come out ascending": the reader's whole list, which holds every member and nothing else
  pub runs : (f : ℕ → ℕ) → Bits f → (len : ℕ) → TheOne (AreRuns f len 0) (ends_of_runs f len)
  pub runs-hold : (f : ℕ → ℕ) → Bits f → (len k : ℕ) → InRuns k (ends_of_runs f len) ↔ Member f len k
  -- the lookup's runs are the reader's: at a slot of a run that the reader gives it answers that run, and no other
  pub runs-looked-up : (f : ℕ → ℕ) → Bits f → (len i a b : ℕ)
      → (run_as 0 f len i ≡ Ok (Span a b)) ↔ (Among a b (ends_of_runs f len) × (a ≤ i) × (i ≤ b))
  -- as all_runs lists them: their number, their first and last slots at the front of two columns, the rest of which stays
  pub all_runs : (ws : List ℕ) (people person len : ℕ) (firsts lasts : List ℕ)
      → number_of (runs_row ws people person len (length firsts) (length lasts)) ≡ 0
      → let x = all_runs_of ws people person len firsts lasts in
      let l = ends_of_runs (row_slots ws person) len in
      (x.answer ≡ Ok (length l)) × FrontOf (λ r. r.first) l firsts x.firsts × FrontOf (λ r. r.last) l lasts x.lasts
  -- the size is the number of members
  pub count : (f : ℕ → ℕ) → Bits f → (len : ℕ) → answer_as 0 (size f len) ≡ Ok (length (among (λ k. eqb (f k) 1) len))
  -- a new set is empty
  pub new : (len : ℕ) → number_of (length_row len) ≡ 0 → ((new_of len).set.len ≡ len) × ((k : ℕ) → slots_of (new_of len).set k ≡ 0)
  -- insert (v = 1) and remove (v = 0) of a slot, and of each slot of a stretch
  pub put : (v : ℕ) (s : SlotSet) (i : ℕ) → v < 2 → length s.words ≡ 16 → number_of (slot_row s.len i) ≡ 0
      → Changes (λ _. v) i 1 s (put_of v s i).set
  pub stretch : (v : ℕ) (s : SlotSet) (a e : ℕ) → v < 2 → length s.words ≡ 16 → number_of (stretch_row s.len a e) ≡ 0
      → Changes (λ _. v) a (e - a) s (stretch_of v s a e).set
  -- the same of a person's row, among the bits of all rows; a set that is stored: bits "at or past the length are .. never written"
  pub put-stretch : (v : ℕ) (ws : List ℕ) (people person len a e : ℕ) → v < 2 → number_of (person_stretch_row ws people person len a e) ≡ 0
      → Put (λ _. v) (1024 * person + a) (e - a) (slot ws 0) (slot (row_stretch_of v ws people person len a e) 0)
  pub store : (s : SlotSet) (ws : List ℕ) (people person : ℕ) → number_of (person_row ws people person s.len) ≡ 0
      → Put (slots_of s) (1024 * person) s.len (slot ws 0) (slot (store_of s ws people person) 0)
  pub clear : (ws : List ℕ) (people person len : ℕ) → number_of (person_row ws people person len) ≡ 0
      → Put (λ _. 0) (1024 * person) len (slot ws 0) (slot (cleared_row ws people person len) 0)
  pub load : (ws : List ℕ) (people person len : ℕ) → number_of (person_row ws people person len) ≡ 0
      → ((load_of ws people person len).set.len ≡ len)
      × ((k : ℕ) → k < 1024 → slots_of (load_of ws people person len).set k ≡ row_slots ws person k)
  -- everybody's sets are the same in two columns of words: each slot below the length is
  pub same-sets : (ws vs : List ℕ) (people len : ℕ)
      → (answer_as 0 (same_sets ws vs people len) ≡ (Ok true)) ↔ ((p k : ℕ) → p < people → k < len → row_slots ws p k ≡ row_slots vs p k)
  -- "Bits at or past the length are ignored": sets that agree below it have the same answers
  pub ignored : (f g : ℕ → ℕ) (len : ℕ) → ((k : ℕ) → k < len → f k ≡ g k) → SameAnswers f g len
