-- Demand 2, slot sets, by the laws of slotset. Assumes nothing.
use Rattle.std.specs.Prelude.{Ok, true, false, Option, Some, None, Result, Err, IsOkAnd}
use mathlib.Core.Path.{◌≡◌, refl, sym, ap, ap₂, ◌∙◌, subst}
use mathlib.Core.Bool.{Bool, cond}
use mathlib.Core.List.{List, [], ◌∷◌}
use mathlib.Core.Logic.{◌↔◌, inr, ⊎_elim}
use Prim.Native.Nat.{ℕ, zero, suc, ◌+◌, ◌-◌, ◌*◌, ◌/◌, ◌%◌, ◌≤◌, ◌<◌}
use native.Mathlib.Omega.{arith}
use borrow.Author.Tests.{eq-eqb, eqb-true, ne_eqb, le-leb, lt-ltb}
use lib.Dec.{eqb}
use lib.ListN.{length, get_or}
use Rattle.paper.specs.Rows.{unless, answer_as}
use Rattle.paper.specs.Bits.{bit_of}
use Rattle.paper.specs.Count.{all, among}
use Rattle.paper.specs.Limits.{number_of}
use Rattle.paper.proofs.Logic.{by-test, and-true, zero_of, lt-or-ge}
use Rattle.paper.proofs.Count.{each_all, all-each, all-fails}
use Rattle.paper.proofs.Rows.{worked}
use Rattle.slotset.specs.declared.SlotSet.{SlotSet}
use Rattle.slotset.specs.declared.Run.{Run}
use Rattle.slotset.specs.declared.Run.TheVariants as run
use Rattle.slotset.specs.Slots.{Bits, slot, put_slot, put_slots, has, Member, size, has_no_member, same_slots}
use Rattle.slotset.specs.Search.{next_with, last_below, next_set, First, Last}
use Rattle.slotset.specs.Runs.{first_around, last_around, Around, end_of, Ends, when_found, runs, ends_of_runs, AreRuns, InRuns, Among}
use Rattle.slotset.specs.Answers.{length_row, slot_row, stretch_row, person_row, person_stretch_row, slots_of, row_slots, same_sets}
use Rattle.slotset.specs.Answers.{stretch_as, run_at, run_as, Holds, empty_set}
use Rattle.slotset.specs.Answers.{run_step, next_run_as, member_step, next_member_as, changed_as, new_of, put_of, stretch_of, load_of}
use Rattle.slotset.specs.Answers.{store_of, row_stretch_of, cleared_row}
use Rattle.slotset.proofs.Puts.{slot_lt, slot-puts, slot-puts-other, puts_none, slot-loaded, slot-none}
use Rattle.slotset.proofs.Refusals.{slot-says, stretch-says, row-says, row-stretch-says}
use Rattle.slotset.proofs.OneSlot.{load_is}
use Rattle.slotset.proofs.Meaning.{next-is, next-unique, last-is, last-unique, next-same, last-same}
use Rattle.slotset.proofs.Members.{size-members, put-here, put-elsewhere, size_same, none-same, has_same, all-runs-same}
use Rattle.slotset.proofs.Runs.{has-member, member-has, run-around, around-unique, around-slot, around-same, runs-are, runs-unique}
use Rattle.slotset.proofs.Runs.{runs-hold, runs-only, run-among, among-around}
use Rattle.slotset.proofs.Runs.{answers-below, answers-outside, answers-run, answers-hole, lookup-is, lookup-unique}
use Rattle.runs.specs.Listed.{runs_row, column, all_runs_of}
use Rattle.runs.proofs.Listing.{list-says, column-at, column-stays}
use Rattle.promises.specs.SetRules.{TheOne, Put, Changes, first_ahead, FrontOf, SameAnswers, SetsByRule}

-- an answer that is worked out meets a statement, and no other answer does
the-answer : {A : Type 0} (P : A → Type 0) (x : A) → P x → ((y : A) → P y → y ≡ x) → TheOne (λ (r : Result A ℕ). IsOkAnd r P) (answer_as 0 x)
unfolding answer_as unless
the-answer {A} P x m o = record { meets = m; only = only }
  where
    only : (r : Result A ℕ) → IsOkAnd r P → r ≡ Ok x
    only (Ok y) h = ap Ok (o y h)
    only (Err n) h = absurd h

next-found : (v : ℕ) (f : ℕ → ℕ) (len from : ℕ) → TheOne (λ r. IsOkAnd r (First v f len from)) (answer_as 0 (next_with v f len from))
next-found v f len from = the-answer (First v f len from) (next_with v f len from) (next-is v f len from) (next-unique v f len from)

last_found : (v : ℕ) (f : ℕ → ℕ) (len end : ℕ) → TheOne (λ r. IsOkAnd r (Last v f len end)) (answer_as 0 (last_below v f len end))
last_found v f len end = the-answer (Last v f len end) (last_below v f len end) (last-is v f len end) (last-unique v f len end)

-- ---- the lookup

module _ (f : ℕ → ℕ) (bits : Bits f) (len i : ℕ) where
  run-found : TheOne (λ r. IsOkAnd r (Holds f len i)) (run_as 0 f len i)
  run-found = the-answer (Holds f len i) (run_at f len i) (lookup-is f len i bits) (lookup-unique f len i bits)

  -- what an answer that is known says
  says : (r : Run) → run_as 0 f len i ≡ Ok r → Holds f len i r
  unfolding answer_as unless
  says r e = subst (λ (x : Result Run ℕ). IsOkAnd x (Holds f len i)) e (lookup-is f len i bits)

  -- what is known of the lookup, as it is answered
  looked : (r : Run) → run_at f len i ≡ r → run_as 0 f len i ≡ Ok r
  unfolding answer_as unless
  looked r e = ap Ok e

  run-when : ((a : ℕ) × (b : ℕ) × (run_as 0 f len i ≡ Ok (run.Span a b))) ↔ Member f len i
  run-when = (
    λ x. around-slot f len i 1 x.0 x.1 (says (run.Span x.0 x.1) x.2),
    λ m. (first_around 1 f len i, last_around 1 f len i, looked _ (answers-run f len i m)),
  )

  hole-when : ((a : ℕ) × (b : ℕ) × (run_as 0 f len i ≡ Ok (run.Hole a b))) ↔ ((i < len) × (f i ≡ 0))
  hole-when = (
    λ x. around-slot f len i 0 x.0 x.1 (says (run.Hole x.0 x.1) x.2),
    λ m. (first_around 0 f len i, last_around 0 f len i, looked _ (answers-hole f len i m)),
  )

  outside-when : (run_as 0 f len i ≡ Ok run.Outside) ↔ (len ≤ i)
  outside-when = (says run.Outside, λ h. looked _ (answers-outside f len i h))

  whole-hole : ((k : ℕ) → Member f len k → ⊥) → i < len → run_as 0 f len i ≡ Ok (run.Hole 0 (len - 1))
  whole-hole none h =
      let x : Around 0 f len i 0 (len - 1) = record {
        from = omega arith;
        to = omega arith;
        fits = omega arith;
        all = λ k a b. zero_of (f k) (bits k) (λ e. none k (omega arith, e));
        left = λ p. let z : ⊥ = omega arith in absurd z;
        right = λ p. let z : ⊥ = omega arith in absurd z;
      } in
      looked _ (sym (lookup-unique f len i bits (run.Hole 0 (len - 1)) x))

module _ (f : ℕ → ℕ) (bits : Bits f) (len : ℕ) where
  all_are : AreRuns f len 0 (ends_of_runs f len)
  all_are = runs-are f bits len len 0 (omega arith)

  runs-found : TheOne (AreRuns f len 0) (ends_of_runs f len)
  runs-found = record { meets = all_are; only = λ l x. runs-unique f bits len 0 l (ends_of_runs f len) x all_are }

  runs-members : (k : ℕ) → InRuns k (ends_of_runs f len) ↔ Member f len k
  runs-members k = (runs-only f bits len 0 (ends_of_runs f len) all_are k, runs-hold f bits len 0 (ends_of_runs f len) all_are k (omega arith))

  -- the lookup's runs are those of the list
  looked-up : (i a b : ℕ) → (run_as 0 f len i ≡ Ok (run.Span a b)) ↔ (Among a b (ends_of_runs f len) × (a ≤ i) × (i ≤ b))
  looked-up i a b = (
    λ e.
        let x = says f bits len i (run.Span a b) e in
        let m = around-slot f len i 1 a b x in
        let u = around-unique 1 f len i _ _ a b (run-around f bits len i m) x in (
          subst (λ (z : ℕ). Among z b (ends_of_runs f len)) u.0
              (subst (λ (z : ℕ). Among (first_around 1 f len i) z (ends_of_runs f len)) u.1
              (run-among f bits len i m 0 (ends_of_runs f len) all_are (omega arith) (λ p q u v. let z : ⊥ = omega arith in z))),
          x.from,
          x.to,
        ),
    λ h. looked f bits len i _ (sym (lookup-unique f len i bits (run.Span a b)
        (among-around f bits len i a b 0 (ends_of_runs f len) all_are (λ p q u v. let z : ⊥ = omega arith in z) h.0 h.1 h.2))),
  )

  counted-members : answer_as 0 (size f len) ≡ Ok (length (among (λ k. eqb (f k) 1) len))
  unfolding answer_as unless
  counted-members = ap Ok (size-members f len bits)

-- ---- membership

contains-yes : (f : ℕ → ℕ) (len i : ℕ) → Member f len i → answer_as 0 (has f len i) ≡ (Ok true)
unfolding answer_as unless
contains-yes f len i m = ap Ok (member-has f len i m)

contains-no : (f : ℕ → ℕ) (len i : ℕ) → (Member f len i → ⊥) → answer_as 0 (has f len i) ≡ (Ok false)
unfolding answer_as unless
contains-no f len i h =
    by-test (has f len i) _ (λ t. absurd (h (has-member f len i t))) (λ e. ap Ok e)

empty-yes : (f : ℕ → ℕ) → Bits f → (len : ℕ) → ((i : ℕ) → Member f len i → ⊥) → answer_as 0 (has_no_member f len) ≡ (Ok true)
unfolding answer_as has_no_member unless
empty-yes f bits len h =
    ap Ok
    (each_all len (λ k. eqb (f k) 0) (λ k l. eq-eqb (f k) 0 (zero_of (f k) (bits k) (λ q. h k (l, q)))))

empty-refusal : (f : ℕ → ℕ) (len i : ℕ) → Member f len i → answer_as 0 (has_no_member f len) ≡ (Ok false)
unfolding answer_as has_no_member unless
empty-refusal f len i m =
    ap Ok
    (all-fails len i (λ k. eqb (f k) 0) m.0 (ne_eqb (f i) 0 (λ q. omega (arith, q, m.1))))

-- ---- readers

module _ (f : ℕ → ℕ) (len at : ℕ) where
  -- the answers, by the member that is found
  run-at : (x : Option ℕ) → First 1 f len at x → next_run_as 0 f len at ≡ Ok (run_step f len x)
  unfolding answer_as unless
  run-at x w = ap (λ (y : Option ℕ). Ok (run_step f len y)) (sym (next-unique 1 f len at x w))

  member-at : (x : Option ℕ) → First 1 f len at x → next_member_as 0 f len at ≡ Ok (member_step x)
  unfolding answer_as unless
  member-at x w = ap (λ (y : Option ℕ). Ok (member_step y)) (sym (next-unique 1 f len at x w))

  -- a run that starts at slot `first` ends before the next unset slot
  run_end : Bits f → (first last : ℕ) → first ≤ last → last < len → ((k : ℕ) → first ≤ k → k ≤ last → f k ≡ 1)
      → (last + 1 < len → f (last + 1) ≡ 1 → ⊥) → last_around 1 f len first ≡ last
  run_end bits first last h l all stop =
      let set_before : (k : ℕ) → suc first ≤ k → k < last + 1 → f k ≡ 0 → ⊥ = λ k a b z.
      omega (arith, z, all k (omega arith) (omega arith)) in
      ⊎_elim
      (λ (g : last + 1 < len).
      let w : First 0 f len (suc first) (Some (last + 1)) =
      (omega arith, g, zero_of (f (last + 1)) (bits (last + 1)) (stop g), set_before) in
      let e : last + 1 - 1 ≡ last = omega arith in
      ap (end_of len) (sym (next-unique 0 f len (suc first) (Some (last + 1)) w)) ∙ e)
      (λ (g : len ≤ last + 1).
      let w : First 0 f len (suc first) None = λ k a b. set_before k a (omega arith) in
      let e : len - 1 ≡ last = omega arith in
      ap (end_of len) (sym (next-unique 0 f len (suc first) None w)) ∙ e)
      (lt-or-ge (last + 1) len)

  next-run-is : Bits f → (l : List Ends) → AreRuns f len at l → next_run_as 0 f len at ≡ Ok (first_ahead l)
  next-run-is bits [] x = run-at None x
  next-run-is bits (r ∷ rs) x =
      run-at (Some r.first) (x.0, omega (arith, x.1, x.2), x.4 r.first (omega arith) x.1, x.3)
      ∙ ap (λ (e : ℕ). Ok (Some (record { first = r.first; last = e; next = record { at = e + 1 } })))
      (run_end bits r.first r.last x.1 x.2 x.4 x.5)

-- ---- all runs, listed

-- no more runs than were asked for
runs-few : (f : ℕ → ℕ) (len n at : ℕ) → length (runs n f len at) ≤ n
unfolding runs
runs-few f len zero at = omega arith
runs-few f len (suc n) at = found-few (runs-few f len n) (next_set f len at)
  where
    found-few : ((i : ℕ) → length (runs n f len i) ≤ n) → (x : Option ℕ)
        → length
        (when_found x (λ lo. record { first = lo; last = last_around 1 f len lo } ∷ runs n f len (last_around 1 f len lo + 1))) ≤ suc n
    found-few few (Some lo) = omega (arith, few (last_around 1 f len lo + 1))
    found-few few None = omega arith

front_of : (end : Ends → ℕ) (l : List Ends) (n : ℕ) (c : List ℕ) → n ≡ 0 → length l ≤ length c
    → FrontOf end l c (unless n c (column end l 0 c))
front_of end l n c e room =
    let q = worked n c (column end l 0 c) e in
    record {
      each = λ k none h.
          let j : k ≡ 0 + k = omega arith in
          ap₂ (λ (x : List ℕ) (i : ℕ). get_or x i 0) q j ∙ column-at end l 0 k c none h (omega arith);
      past = λ k h. ap (λ (x : List ℕ). get_or x k 0) q ∙ column-stays end l 0 k c (inr (omega arith));
    }

all-runs-listed : (ws : List ℕ) (people person len : ℕ) (firsts lasts : List ℕ)
    → number_of (runs_row ws people person len (length firsts) (length lasts)) ≡ 0
    → let x = all_runs_of ws people person len firsts lasts in
    let l = ends_of_runs (row_slots ws person) len in
    (x.answer ≡ Ok (length l)) × FrontOf (λ r. r.first) l firsts x.firsts × FrontOf (λ r. r.last) l lasts x.lasts
unfolding answer_as unless
all-runs-listed ws people person len firsts lasts e =
    let l = ends_of_runs (row_slots ws person) len in
    let n = number_of (runs_row ws people person len (length firsts) (length lasts)) in
    let few = runs-few (row_slots ws person) len len 0 in
    let r = list-says ws people person len (length firsts) (length lasts) e in (
      ap (λ (x : ℕ). answer_as x (length l)) e,
      front_of (λ r. r.first) l n firsts e (omega (arith, few, r.1.0)),
      front_of (λ r. r.last) l n lasts e (omega (arith, few, r.1.1)),
    )

-- ---- writes

-- what is put into words, among the bits of them all
puts-put : (g : ℕ → ℕ) (b from n at : ℕ) (ws : List ℕ) → Bits g → b * 64 + (from + n) ≤ length ws * 64 → b * 64 + from ≡ at
    → Put (λ k. g (from + k)) at n (slot ws 0) (slot (put_slots g b from n ws) 0)
puts-put g b from n at ws bits room e = record {
  here = λ k h.
      let q : 0 * 64 + (at + k) - b * 64 ≡ from + k = omega arith in
      slot-puts g b from n ws 0 (at + k) bits room
      ∙ ap (λ (t : Bool). cond t (g (0 * 64 + (at + k) - b * 64)) (slot ws 0 (at + k)))
      (and-true _ _ (le-leb (b * 64 + from) (0 * 64 + (at + k)) (omega arith))
      (lt-ltb (0 * 64 + (at + k)) (b * 64 + from + n) (omega arith)))
      ∙ ap g q;
  elsewhere = λ i out. slot-puts-other g b from n ws 0 i bits room (λ x y. out (omega arith) (omega arith));
}

-- one value, from a up to e: a stretch with no slot in it needs no room
stretch-put : (v b a e at : ℕ) (ws : List ℕ) → v < 2 → (a < e → b * 64 + e ≤ length ws * 64) → b * 64 + a ≡ at
    → Put (λ _. v) at (e - a) (slot ws 0) (slot (put_slots (λ _. v) b a (e - a) ws) 0)
stretch-put v b a e at ws small room q =
    ⊎_elim
    (λ (h : a < e). puts-put (λ _. v) b a (e - a) at ws (λ k. small) (omega (arith, room h)) q)
    (λ (h : e ≤ a).
    let z : e - a ≡ 0 = omega arith in
    record {
      here = λ k l. absurd (omega arith);
      elsewhere = λ i out.
          ap (λ (n : ℕ). slot (put_slots (λ _. v) b a n ws) 0 i) z ∙ ap (λ (l : List ℕ). slot l 0 i) (puts_none (λ _. v) b a ws);
    })
    (lt-or-ge a e)

-- a set handed back by the number 0
changed-set : (n : ℕ) (old new : SlotSet) → n ≡ 0 → (changed_as n old new).set ≡ new
unfolding changed_as
changed-set n old new e = worked n old new e

put-changes : (v : ℕ) (s : SlotSet) (i : ℕ) → v < 2 → length s.words ≡ 16 → number_of (slot_row s.len i) ≡ 0
    → Changes (λ _. v) i 1 s (put_of v s i).set
unfolding put_of
put-changes v s i small room e =
    let x = slot-says s.len i e in
    let w : 0 + i / 64 < length s.words = omega (arith, x.0, x.1) in
    let q = changed-set _ s (record { words = put_slot 0 i v s.words; len = s.len }) e in
    record {
      same_length = ap (λ (t : SlotSet). t.len) q;
      put = record {
        here = λ k h.
            let j : i + k ≡ i = omega arith in
            ap₂ (λ (t : SlotSet) (n : ℕ). slots_of t n) q j ∙ put-here 0 i v s.words small w;
        elsewhere = λ j out.
            ap (λ (t : SlotSet). slots_of t j) q ∙ put-elsewhere 0 i v s.words small w j (λ z. out (omega arith) (omega arith));
      };
    }

stretch-changes : (v : ℕ) (s : SlotSet) (a e : ℕ) → v < 2 → length s.words ≡ 16 → number_of (stretch_row s.len a e) ≡ 0
    → Changes (λ _. v) a (e - a) s (stretch_of v s a e).set
unfolding stretch_of
stretch-changes v s a e small room z =
    let x = stretch-says s.len a e z in
    let q = changed-set _ s (record { words = put_slots (λ _. v) 0 a (e - a) s.words; len = s.len }) z in
    record {
      same_length = ap (λ (t : SlotSet). t.len) q;
      put =
          subst (λ (t : SlotSet). Put (λ _. v) a (e - a) (slots_of s) (slots_of t)) (sym q)
          (stretch-put v 0 a e a s.words small (λ h. omega (arith, x.0, x.1 h)) (omega arith));
    }

put-stretch-changes : (v : ℕ) (ws : List ℕ) (people person len a e : ℕ) → v < 2 → number_of (person_stretch_row ws people person len a e) ≡ 0
    → Put (λ _. v) (1024 * person + a) (e - a) (slot ws 0) (slot (row_stretch_of v ws people person len a e) 0)
unfolding row_stretch_of
put-stretch-changes v ws people person len a e small z =
    let x = row-stretch-says ws people person len a e z in
    let r = row-says ws people person len x.0 in
    let out = put_slots (λ _. v) (16 * person) a (e - a) ws in
    subst (λ (l : List ℕ). Put (λ _. v) (1024 * person + a) (e - a) (slot ws 0) (slot l 0))
    (sym (worked _ ws out z))
    (stretch-put v (16 * person) a e (1024 * person + a) ws small (λ h. omega (arith, r.short, r.words, x.1 h)) (omega arith))

store-changes : (s : SlotSet) (ws : List ℕ) (people person : ℕ) → number_of (person_row ws people person s.len) ≡ 0
    → Put (slots_of s) (1024 * person) s.len (slot ws 0) (slot (store_of s ws people person) 0)
unfolding store_of
store-changes s ws people person z =
    let r = row-says ws people person s.len z in
    let out = put_slots (slots_of s) (16 * person) 0 s.len ws in
    let p = puts-put (slots_of s) (16 * person) 0 s.len (1024 * person) ws (slot_lt s.words 0)
    (omega (arith, r.short, r.words)) (omega arith) in
    subst (λ (l : List ℕ). Put (slots_of s) (1024 * person) s.len (slot ws 0) (slot l 0))
    (sym (worked _ ws out z)) record {
      here = λ k h. let e : 0 + k ≡ k = omega arith in p.here k h ∙ ap (slots_of s) e;
      elsewhere = p.elsewhere;
    }

clear-changes : (ws : List ℕ) (people person len : ℕ) → number_of (person_row ws people person len) ≡ 0
    → Put (λ _. 0) (1024 * person) len (slot ws 0) (slot (cleared_row ws people person len) 0)
unfolding cleared_row
clear-changes ws people person len z =
    let r = row-says ws people person len z in
    let out = put_slots (λ _. 0) (16 * person) 0 len ws in
    let p = puts-put (λ _. 0) (16 * person) 0 len (1024 * person) ws (λ k. omega arith) (omega (arith, r.short, r.words)) (omega arith) in
    subst (λ (l : List ℕ). Put (λ _. 0) (1024 * person) len (slot ws 0) (slot l 0))
    (sym (worked _ ws out z)) record { here = λ k h. p.here k h; elsewhere = p.elsewhere }

-- a person's row as a set by value has its slots
pub load_row : (ws : List ℕ) (people person len : ℕ) → number_of (person_row ws people person len) ≡ 0
    → ((load_of ws people person len).set.len ≡ len)
    × ((k : ℕ) → k < 1024 → slots_of (load_of ws people person len).set k ≡ row_slots ws person k)
load_row ws people person len e =
    let q = load_is ws people person len e in
    (ap (λ (s : SlotSet). s.len) q, λ k h. ap (λ (s : SlotSet). slots_of s k) q ∙ slot-loaded ws person k h)

new-empty : (len : ℕ) → number_of (length_row len) ≡ 0 → ((new_of len).set.len ≡ len) × ((k : ℕ) → slots_of (new_of len).set k ≡ 0)
unfolding new_of
new-empty len e =
    let q = changed-set _ (empty_set 0) (empty_set len) e in
    (ap (λ (s : SlotSet). s.len) q, λ k. ap (λ (s : SlotSet). slots_of s k) q ∙ slot-none 16 0 k)

-- ---- places

set-bit : (s : SlotSet) (i : ℕ) → slots_of s i ≡ bit_of (get_or s.words (i / 64) 0) (i % 64)
unfolding slot
set-bit s i = let e : 0 + i / 64 ≡ i / 64 = omega arith in ap (λ (j : ℕ). bit_of (get_or s.words j 0) (i % 64)) e

row-bit : (ws : List ℕ) (person i : ℕ) → row_slots ws person i ≡ bit_of (get_or ws (16 * person + i / 64) 0) (i % 64)
unfolding slot
row-bit ws person i = refl

-- ---- everybody's sets compared

same-answered : (ws vs : List ℕ) (people len : ℕ)
    → (answer_as 0 (same_sets ws vs people len) ≡ (Ok true)) ↔ ((p k : ℕ) → p < people → k < len → row_slots ws p k ≡ row_slots vs p k)
unfolding answer_as unless same_sets same_slots
same-answered ws vs people len = (
  λ e p k h l. by-test (all people same) _
      (λ t. eqb-true _ _ (all-each len (λ i. eqb (row_slots ws p i) (row_slots vs p i)) (all-each people same t p h) k l))
      (λ f. let q : (Ok false) ≡ (Ok true) = sym (ap Ok f) ∙ e in let z : ◌≡◌ {A = ℕ} 0 1 = cc in absurd (omega arith)),
  λ f. ap Ok
      (each_all people same (λ p h. each_all len (λ i. eqb (row_slots ws p i) (row_slots vs p i)) (λ k l. eq-eqb _ _ (f p k h l)))),
)
  where
    same : ℕ → Bool
    same p = all len (λ k. eqb (row_slots ws p k) (row_slots vs p k))

-- ---- sets that agree below the length

module _ (f g : ℕ → ℕ) (len : ℕ) (same : (k : ℕ) → k < len → f k ≡ g k) where
  stretch-answers : (v i : ℕ) → stretch_as v f len i ≡ stretch_as v g len i
  unfolding stretch_as
  stretch-answers v i =
      let r = around-same f g len same v i in
      ap₂ (λ (a b : ℕ). cond (eqb v 1) (run.Span a b) (run.Hole a b)) r.0 r.1

  answered-same : (i : ℕ) → run_at f len i ≡ run_at g len i
  answered-same i =
      ⊎_elim
      (λ (h : i < len).
      answers-below f len i h ∙ stretch-answers (f i) i ∙ ap (λ (v : ℕ). stretch_as v g len i) (same i h) ∙ sym (answers-below g len i h))
      (λ (h : len ≤ i). answers-outside f len i h ∙ sym (answers-outside g len i h))
      (lt-or-ge i len)

  run-answers : (n i : ℕ) → run_as n f len i ≡ run_as n g len i
  run-answers n i = ap (answer_as n) (answered-same i)

  steps-same : (x : Option ℕ) → run_step f len x ≡ run_step g len x
  steps-same (Some i) =
      ap (λ (e : ℕ). Some (record { first = i; last = e; next = record { at = e + 1 } })) (around-same f g len same 1 i).1
  steps-same None = refl

  next-run-answers : (n at : ℕ) → next_run_as n f len at ≡ next_run_as n g len at
  next-run-answers n at =
      ap (answer_as n)
      (steps-same (next_set f len at) ∙ ap (run_step g len) (next-same 1 f g len at same))

  next-member-answers : (n at : ℕ) → next_member_as n f len at ≡ next_member_as n g len at
  next-member-answers n at =
      ap (λ (x : Option ℕ). answer_as n (member_step x)) (next-same 1 f g len at same)

  same-answers : SameAnswers f g len
  same-answers = record {
    contains = has_same f g len same;
    is-empty = none-same f g len same;
    count = size_same f g len same;
    next = λ v from. next-same v f g len from same;
    prev = λ v end. last-same v f g len end same;
    run = run-answers;
    next-run = next-run-answers;
    next-member = next-member-answers;
    runs = all-runs-same f g len same;
  }

no-slot-held : (f : ℕ → ℕ) (i : ℕ) → run_as 0 f 0 i ≡ Ok run.Outside
unfolding answer_as unless
no-slot-held f i = ap Ok (answers-outside f 0 i (omega arith))

pub sets-by-rule : SetsByRule
sets-by-rule = record {
  bit = set-bit;
  row-bit = row-bit;
  contains = contains-yes;
  contains-not = contains-no;
  empty = empty-yes;
  empty-not = empty-refusal;
  next = λ f len from. next-found 1 f len from;
  prev = λ f len from. last_found 1 f len (suc from);
  next-unset = λ f len from. next-found 0 f len (suc from);
  prev-unset = λ f len from. last_found 0 f len from;
  run = run-found;
  is-run = run-when;
  is-hole = hole-when;
  is-outside = outside-when;
  empty-hole = whole-hole;
  no-slots = no-slot-held;
  next-run = λ f bits len at l x. next-run-is f len at bits l x;
  next-member = λ f len at i w. member-at f len at (Some i) w;
  no_member = λ f len at w. member-at f len at None w;
  runs = runs-found;
  runs-hold = runs-members;
  runs-looked-up = looked-up;
  all_runs = all-runs-listed;
  count = counted-members;
  new = new-empty;
  put = put-changes;
  stretch = stretch-changes;
  put-stretch = put-stretch-changes;
  store = store-changes;
  clear = clear-changes;
  load = load_row;
  same-sets = same-answered;
  ignored = same-answers;
}
