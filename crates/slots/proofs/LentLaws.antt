-- The laws of lent slots: what the one test says of those that pass, and the steps of its loops. Assumes nothing.
use mathlib.Core.Path.{◌≡◌, refl, sym, ap, ap₂, ◌∙◌}
use mathlib.Core.Bool.{Bool, true, false, false≢true, ◌&&◌}
use mathlib.Core.List.{List}
use Prim.Native.Nat.{ℕ, zero, suc, ◌+◌, ◌-◌, ◌≤◌, ◌<◌, zero-le}
use native.Mathlib.Numerals.{add-one}
use native.Mathlib.Omega.{arith}
use borrow.Author.Tests.{ltb-true, leb-true, le-leb}
use lib.Dec.{leb, ltb}
use lib.ListN.{length, get_or}
use Rattle.paper.specs.Limits.{slot_count_ok, number_of}
use Rattle.paper.specs.Count.{all, sum}
use Rattle.paper.proofs.Logic.{both, three}
use Rattle.paper.proofs.Rows.{passed}
use Rattle.paper.proofs.Count.{all_none, all-each, sum_more}
use Rattle.slots.specs.Lent.{slot_ok, prev_end, slot_ok_at, slot_room_ok, slots_ok, minutes_at, demand_of, demand_when_ok, SlotsSound}
use Rattle.slots.specs.Inside.{slot_fits, slot_fits_at}
use Rattle.slots.specs.Lent.{lent_row}

-- ---- what one slot's test says

pub slot-says : (starts ends : List ℕ) (k : ℕ) → slot_ok_at starts ends k ≡ true
    → (prev_end ends k ≤ get_or starts k 0) × (get_or starts k 0 < get_or ends k 0) × (get_or ends k 0 ≤ 100000000)
unfolding slot_ok_at slot_ok
slot-says starts ends k e =
    let s = get_or starts k 0 in
    let f = get_or ends k 0 in
    let x = three (leb (prev_end ends k) s) (ltb s f) (leb f 100000000) e in
    (leb-true _ _ x.0, ltb-true _ _ x.1, leb-true _ _ x.2)

-- ---- slots of which each passes

module _ (slots : ℕ) (starts ends : List ℕ) (each : (k : ℕ) → k < slots → slot_ok_at starts ends k ≡ true) where
  -- a slot ends before any later one starts
  later : (k d : ℕ) → suc (k + d) < slots → get_or ends k 0 ≤ get_or starts (suc (k + d)) 0
  unfolding prev_end
  later k zero h =
      let e : k + zero ≡ k = omega arith in
      omega (arith, (slot-says starts ends (suc (k + zero)) (each (suc (k + zero)) h)).0, ap (λ (x : ℕ). get_or ends x 0) e)
  later k (suc d) h =
      let e : k + suc d ≡ suc (k + d) = omega arith in
      let x = (slot-says starts ends (suc (k + suc d)) (each (suc (k + suc d)) h)).0 in
      let y = (slot-says starts ends (suc (k + d)) (each (suc (k + d)) (omega arith))).1 in
      omega (arith, later k d (omega arith), x, y, ap (λ (z : ℕ). get_or ends z 0) e)

  pub slots-ascend : (k j : ℕ) → k < j → j < slots → get_or ends k 0 ≤ get_or starts j 0
  slots-ascend k j h l =
      let e : suc (k + (j - suc k)) ≡ j = omega arith in
      rw e at (later k (j - suc k) (omega arith))

  -- the lengths up to slot n add up to no more than where the last of them ends
  pub demand-by-end : (n : ℕ) → n ≤ slots → sum n (minutes_at starts ends) ≤ prev_end ends n
  unfolding sum minutes_at prev_end
  demand-by-end zero h = zero-le
  demand-by-end (suc n) h =
      let x = slot-says starts ends n (each n (omega arith)) in
      omega (arith, demand-by-end n (omega arith), x.0, x.1)

  pub prev-capped : (n : ℕ) → n ≤ slots → prev_end ends n ≤ 100000000
  unfolding prev_end
  prev-capped zero h = zero-le
  prev-capped (suc n) h = (slot-says starts ends n (each n (omega arith))).2

-- ---- what the test says

pub room_says : (slots : ℕ) (starts ends : List ℕ) → slot_room_ok slots starts ends ≡ true → (slots ≤ length starts) × (slots ≤ length ends)
unfolding slot_room_ok
room_says slots starts ends e =
    let x = both (leb slots (length starts)) (leb slots (length ends)) e in
    (leb-true _ _ x.0, leb-true _ _ x.1)

pub slots-each : (slots : ℕ) (starts ends : List ℕ) → slots_ok slots starts ends ≡ true
    → (k : ℕ) → k < slots → slot_ok_at starts ends k ≡ true
unfolding slots_ok
slots-each slots starts ends e =
    all-each slots (slot_ok_at starts ends) (both (slot_room_ok slots starts ends) (all slots (slot_ok_at starts ends)) e).1

pub slots-sound : (slots : ℕ) (starts ends : List ℕ) → slots_ok slots starts ends ≡ true → SlotsSound slots starts ends
unfolding slots_ok demand_of
slots-sound slots starts ends e =
    let r = room_says slots starts ends (both (slot_room_ok slots starts ends) (all slots (slot_ok_at starts ends)) e).0 in
    let f = slots-each slots starts ends e in
    record {
      starts-room = r.0;
      ends-room = r.1;
      ordered = λ k h. (slot-says starts ends k (f k h)).1;
      capped = λ k h. (slot-says starts ends k (f k h)).2;
      ascending = slots-ascend slots starts ends f;
      demand-fits =
          omega (arith, demand-by-end slots starts ends f slots (omega arith), prev-capped slots starts ends f slots (omega arith));
    }

-- the lengths of the first slots fit as well
pub demand-part : (slots : ℕ) (starts ends : List ℕ) → slots_ok slots starts ends ≡ true → (n : ℕ) → n ≤ slots
    → sum n (minutes_at starts ends) ≤ 100000000
demand-part slots starts ends e n h =
    let f = slots-each slots starts ends e in
    omega (arith, demand-by-end slots starts ends f n h, prev-capped slots starts ends f n h)

-- four tests and one that follows from the last three
last-asked : (a p q l m : Bool) → (p ≡ true → q ≡ true → l ≡ true → m ≡ true)
    → ((a && (p && q)) && l) ≡ ((a && m) && (p && (q && l)))
last-asked false p q l m h = refl
last-asked true false q l true h = refl
last-asked true false q l false h = refl
last-asked true true false l true h = refl
last-asked true true false l false h = refl
last-asked true true true false true h = refl
last-asked true true true false false h = refl
last-asked true true true true true h = refl
last-asked true true true true false h = absurd (false≢true (h refl refl refl))

-- ---- the steps of the loops

-- a slot is asked all but the last minute
module _ (starts ends : List ℕ) where
  pub fits-none : true ≡ all 0 (slot_fits_at starts ends)
  fits-none = sym (all_none (slot_fits_at starts ends))

  pub fits_more : (i prev : ℕ) (ok b r : Bool) → prev ≡ prev_end ends i → ok ≡ all i (slot_fits_at starts ends)
      → b ≡ slot_fits prev (get_or starts i 0) (get_or ends i 0) → r ≡ (ok && b) → r ≡ all (i + 1) (slot_fits_at starts ends)
  unfolding slot_fits_at all
  fits_more i prev ok b r q e d w =
      w ∙ ap₂ ◌&&◌ e (d ∙ ap (λ (p : ℕ). slot_fits p (get_or starts i 0) (get_or ends i 0)) q)
      ∙ sym (ap (λ (n : ℕ). all n (slot_fits_at starts ends)) (add-one i))

  -- the last minute is asked of the last slot: those before it end by then
  fits_all : (n : ℕ) → (all n (slot_fits_at starts ends) && leb (prev_end ends n) 100000000) ≡ all n (slot_ok_at starts ends)
  unfolding slot_fits_at slot_fits slot_ok_at slot_ok all prev_end
  fits_all zero = le-leb 0 100000000 zero-le
  fits_all (suc n) =
      let s = get_or starts n 0 in
      let f = get_or ends n 0 in
      last-asked (all n (slot_fits_at starts ends)) (leb (prev_end ends n) s) (ltb s f) (leb f 100000000) (leb (prev_end ends n) 100000000)
      (λ p q l. le-leb (prev_end ends n) 100000000 (omega (arith, leb-true (prev_end ends n) s p, ltb-true s f q, leb-true f 100000000 l)))
      ∙ ap (λ (b : Bool). b && (leb (prev_end ends n) s && (ltb s f && leb f 100000000))) (fits_all n)

  pub fits-done : (slots i prev : ℕ) (ok r : Bool) → slot_room_ok slots starts ends ≡ true → i ≤ slots → slots ≤ i → prev ≡ prev_end ends i
      → ok ≡ all i (slot_fits_at starts ends) → r ≡ (ok && leb prev 100000000) → r ≡ slots_ok slots starts ends
  unfolding slots_ok
  fits-done slots i prev ok r room h g q e w =
      let n : i ≡ slots = omega arith in
      w ∙ ap₂ ◌&&◌ e (ap (λ (x : ℕ). leb x 100000000) q) ∙ fits_all i ∙ ap (λ (x : ℕ). all x (slot_ok_at starts ends)) n ∙ sym (simp room)

pub prev-none : (ends : List ℕ) → 0 ≡ prev_end ends 0
unfolding prev_end
prev-none ends = refl

pub prev_more : (ends : List ℕ) (i : ℕ) → get_or ends i 0 ≡ prev_end ends (i + 1)
unfolding prev_end
prev_more ends i = sym (ap (prev_end ends) (add-one i))

-- ---- the numbers

-- 1, 2 and 9 are what they are, as tests
pub lent_says : (slots : ℕ) (starts ends : List ℕ) → number_of (lent_row slots starts ends) ≡ 0
    → (slot_count_ok slots ≡ true) × (slots_ok slots starts ends ≡ true)
unfolding lent_row
lent_says slots starts ends e = let h = passed (lent_row slots starts ends) refl e in (h 0, h 2)

-- one more turn of the sum of the lengths
module _ (starts ends : List ℕ) (i total m : ℕ) (e : total ≡ sum i (minutes_at starts ends)) (d : m ≡ minutes_at starts ends i) where
  pub turn-adds : total + m ≡ sum (i + 1) (minutes_at starts ends)
  turn-adds = ap₂ ◌+◌ e d ∙ sym (sum_more i (minutes_at starts ends))

  pub turn-fits : (slots : ℕ) → slots_ok slots starts ends ≡ true → i < slots → total + m ≤ 100000000
  turn-fits slots ok h = omega (arith, turn-adds, demand-part slots starts ends ok (i + 1) (omega arith))

-- demand of slots that pass
pub when-ok : (slots : ℕ) (starts ends : List ℕ) → slots_ok slots starts ends ≡ true
    → demand_when_ok slots starts ends ≡ demand_of slots starts ends
unfolding demand_when_ok
when-ok slots starts ends e = simp e
