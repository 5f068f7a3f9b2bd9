-- The recount as a row of tests: which of them fails first, and where. Assumes nothing.
use Rattle.std.specs.Prelude.{Ok, Err}
use Rattle.std.proofs.Common.{◌≡◌, ℕ, suc, ◌*◌, ◌<◌, ◌≤◌, Bool, true, false, cond, eqb, ltb, leb, List, [], ◌∷◌, ◌++◌, length, get_or, replicate, sym, refl, ap, ◌∙◌, ap₂, ⊎_elim, true≢false, arith, ltb-true, eqb-true, le-leb}
use borrow.Author.Tests.{eqb-false}
use lib.ListN.{length-replicate}
use Rattle.paper.specs.Count.{all, over}
use Rattle.paper.specs.Limits.{people_ok, Test, number_of}
use Rattle.paper.specs.declared.Refusal.{Refusal}
use Rattle.paper.specs.Rows.{accepted, test_refusal, refusal_of, answer_as}
use Rattle.paper.proofs.Logic.{by-test, lt-or-ge, both, and-true}
use Rattle.paper.proofs.Count.{all_same, length_over, get_d_over}
use Rattle.paper.proofs.Refusals.{number-pass, number-fail}
use Rattle.paper.proofs.Rows.{numbered, worked as as-worked}
use Rattle.slotset.specs.Slots.{slot, same_slots}
use Rattle.slotset.specs.Answers.{same_sets, same_sets_row}
use Rattle.slotset.proofs.Refusals.{says_same}
use Rattle.owners.specs.Derived.{Plan, Derived, derived, worked, total_of, sets_from, afresh}
use Rattle.owners.specs.Inside.{PlanSound, Makes, is_yes, same_set, same_entry}
use Rattle.owners.specs.Recount.{first_fail, known_at, available_at, even_at, set_slot_at, set_at, minutes_ok_at, total_ok_at}
use Rattle.owners.specs.Recount.{derived_tests, recount_tests}
use Rattle.owners.proofs.Sets.{sets-in, length-sets}
use Rattle.owners.proofs.Scans.{scan-no, scan-yes, scan-halved, first-is, first-same}

-- ---- a row that goes on from another

-- where nothing is refused by the first row, the second tells
pub first_on : (ts us : List Test) → numbered ts ≡ true → number_of ts ≡ 0 → refusal_of (ts ++ us) ≡ refusal_of us
unfolding refusal_of
first_on [] us h z = refl
first_on (t ∷ ts) us h z =
    let x = both (ltb 0 t.number) (numbered ts) h in
    let p = ltb-true 0 t.number x.0 in
    by-test t.passes _
    (λ e. ap (λ (b : Bool). cond b (refusal_of (ts ++ us)) (test_refusal t)) e ∙ first_on ts us x.1 (sym (number-pass t ts e) ∙ z))
    (λ e. absurd (omega (arith, sym (number-fail t ts e) ∙ z, p)))

-- where something is, that is given
pub first_stops : (ts us : List Test) → (number_of ts ≡ 0 → ⊥) → refusal_of (ts ++ us) ≡ refusal_of ts
unfolding refusal_of number_of
first_stops [] us h = absurd (h refl)
first_stops (t ∷ ts) us h =
    by-test t.passes _
    (λ e.
    ap (λ (b : Bool). cond b (refusal_of (ts ++ us)) (test_refusal t)) e ∙ first_stops ts us (λ z. h (number-pass t ts e ∙ z))
    ∙ sym (ap (λ (b : Bool). cond b (refusal_of ts) (test_refusal t)) e))
    (λ e.
    ap (λ (b : Bool). cond b (refusal_of (ts ++ us)) (test_refusal t)) e ∙ sym (ap (λ (b : Bool). cond b (refusal_of ts) (test_refusal t)) e))

-- ---- which fault

-- 10, with part and place
abbrev ten : ℕ → ℕ → ℕ → Refusal
ten part place second = record { number = 10; part = part; place = place; second = second }

module _ (P : Plan) (avail : List ℕ) (units : ℕ) (begins o : List ℕ) (D : Derived) where
  abbrev known : ℕ → Bool
  known = known_at P.people o

  abbrev available : ℕ → Bool
  available = available_at avail o

  abbrev even : ℕ → Bool
  even = even_at P.slots units begins o

  abbrev row : List Test
  row = recount_tests P avail units begins o D

  module _ (f : Refusal) (a : ℕ) (ea : a ≡ first_fail P.slots known) where
    pub refusal-unknown : a < P.slots → f ≡ ten 1 a 0 → f ≡ refusal_of row
    unfolding recount_tests refusal_of
    refusal-unknown h q = simp (scan-no P.slots a known ea h) (q ∙ ap (λ (x : ℕ). ten 1 x 0) ea)

    module _ (ha : P.slots ≤ a) (b : ℕ) (eb : b ≡ first_fail P.slots available) where
      pub refusal-unavailable : b < P.slots → f ≡ ten 2 b 0 → f ≡ refusal_of row
      unfolding recount_tests refusal_of
      refusal-unavailable h q =
          simp (scan-yes P.slots a known ea ha, scan-no P.slots b available eb h) (q ∙ ap (λ (x : ℕ). ten 2 x 0) eb)

      module _ (hb : P.slots ≤ b) (c : ℕ) (ec : c ≡ first_fail units even) where
        pub refusal-uneven : c < units → f ≡ ten 3 c 0 → f ≡ refusal_of row
        unfolding recount_tests refusal_of
        refusal-uneven h q =
            simp (scan-yes P.slots a known ea ha, scan-yes P.slots b available eb hb, scan-no units c even ec h)
            (q ∙ ap (λ (x : ℕ). ten 3 x 0) ec)

        pub refusal-derived : units ≤ c → f ≡ refusal_of (derived_tests P o D) → f ≡ refusal_of row
        unfolding recount_tests refusal_of
        refusal-derived h q =
            simp (scan-yes P.slots a known ea ha, scan-yes P.slots b available eb hb, scan-yes units c even ec h) q

-- of sets, minutes and totals
module _ (P : Plan) (o : List ℕ) (D : Derived) (f : Refusal) where
  abbrev sets : ℕ → Bool
  sets = set_at P.slots o D.sets

  abbrev minutes : ℕ → Bool
  minutes = minutes_ok_at P o D.minutes

  abbrev totals : ℕ → Bool
  totals = total_ok_at P o D.totals

  pub refusal-set : (p k : ℕ) → p ≡ first_fail P.people sets → k ≡ first_fail P.slots (set_slot_at o D.sets p)
      → all P.people sets ≡ false → f ≡ ten 4 p k → f ≡ refusal_of (derived_tests P o D)
  unfolding refusal_of
  refusal-set p k ep ek h q =
      simp h (q ∙ ap₂ (ten 4) ep (ek ∙ ap (λ (q : ℕ). first_fail P.slots (set_slot_at o D.sets q)) ep))

  module _ (h : all P.people sets ≡ true) (m : ℕ) (em : m ≡ first_fail P.people minutes) where
    pub refusal-minutes : m < P.people → f ≡ ten 5 m 0 → f ≡ refusal_of (derived_tests P o D)
    unfolding refusal_of
    refusal-minutes l q = simp (h, scan-no P.people m minutes em l) (q ∙ ap (λ (x : ℕ). ten 5 x 0) em)

    module _ (l : P.people ≤ m) (i : ℕ) (ei : i ≡ first_fail 2 totals) where
      pub refusal-total : i < 2 → f ≡ ten 6 i 0 → f ≡ refusal_of (derived_tests P o D)
      unfolding refusal_of
      refusal-total g q =
          simp (h, scan-yes P.people m minutes em l, scan-no 2 i totals ei g) (q ∙ ap (λ (x : ℕ). ten 6 x 0) ei)

      pub refusal-clean : 2 ≤ i → f ≡ accepted → f ≡ refusal_of (derived_tests P o D)
      unfolding refusal_of
      refusal-clean g q = simp (h, scan-yes P.people m minutes em l, scan-yes 2 i totals ei g) q

-- ---- sets, minutes and totals worked out beside those that are lent

abbrev none : Derived
none = derived (replicate 512 0) (replicate 32 0) (replicate 2 0)

module _ (P : Plan) (S : PlanSound P) (o s m t : List ℕ) (M : Makes P o (derived s m t)) where
  pub none-makes : Makes P o none
  none-makes =
      record {
        owners-room = M.owners-room;
        sets-room = omega (arith, length-replicate {A = ℕ} 512 0, S.people-few);
        minutes-room = omega (arith, length-replicate {A = ℕ} 32 0, S.people-few);
        totals-room = omega (arith, length-replicate {A = ℕ} 2 0);
        known = M.known;
      }

  module _ (s' m' t' : List ℕ) (e : derived s' m' t' ≡ afresh P o none) where
    made-sets : s' ≡ sets_from P.people P.slots o (replicate 512 0)
    unfolding afresh
    made-sets = ap (λ (x : Derived). x.sets) e

    made-minutes : m' ≡ over (worked P o) P.people (replicate 32 0)
    unfolding afresh
    made-minutes = ap (λ (x : Derived). x.minutes) e

    made-totals : t' ≡ over (total_of P o) 2 (replicate 2 0)
    unfolding afresh
    made-totals = ap (λ (x : Derived). x.totals) e

    pub made-lengths : (length s' ≡ 512) × (length m' ≡ 32) × (length t' ≡ 2)
    made-lengths = (
      ap length made-sets ∙ length-sets P.people P.slots o (replicate 512 0) ∙ length-replicate {A = ℕ} 512 0,
      ap length made-minutes ∙ length_over (worked P o) P.people (replicate 32 0) ∙ length-replicate {A = ℕ} 32 0,
      ap length made-totals ∙ length_over (total_of P o) 2 (replicate 2 0) ∙ length-replicate {A = ℕ} 2 0,
    )

    set-right : (p : ℕ) → p < P.people → same_set P.slots s s' p ≡ set_at P.slots o s p
    unfolding set_at set_slot_at same_slots
    set-right p h =
        all_same P.slots _ _
        (λ k g. ap (eqb (slot s (16 * p) k)) (ap (λ (l : List ℕ). slot l (16 * p) k) made-sets
        ∙ sets-in P.slots o (replicate 512 0) S.slots-few P.people none-makes.sets-room p k h g))

    minute-right : (p : ℕ) → p < P.people → same_entry m m' p ≡ minutes_ok_at P o m p
    unfolding minutes_ok_at
    minute-right p h =
        ap (eqb (get_or m p 0)) (ap (λ (x : List ℕ). get_or x p 0) made-minutes
        ∙ get_d_over (worked P o) P.people (replicate 32 0) p h (omega (arith, length-replicate {A = ℕ} 32 0, S.people-few)))

    total_right : (i : ℕ) → i < 2 → same_entry t t' i ≡ total_ok_at P o t i
    unfolding total_ok_at
    total_right i h =
        ap (eqb (get_or t i 0)) (ap (λ (x : List ℕ). get_or x i 0) made-totals
        ∙ get_d_over (total_of P o) 2 (replicate 2 0) i h (omega (arith, length-replicate {A = ℕ} 2 0)))

    -- word by word as slot by slot
    pub right-sets : same_sets s s' P.people P.slots ≡ all P.people (set_at P.slots o s)
    unfolding same_sets
    right-sets = all_same P.people _ _ set-right

    pub right-first : first_fail P.people (same_set P.slots s s') ≡ first_fail P.people (set_at P.slots o s)
    right-first = first-same P.people _ _ set-right

    pub right-minutes : first_fail P.people (same_entry m m') ≡ first_fail P.people (minutes_ok_at P o m)
    right-minutes = first-same P.people _ _ minute-right

    pub right-totals : first_fail 2 (same_entry t t') ≡ first_fail 2 (total_ok_at P o t)
    right-totals = first-same 2 _ _ total_right

-- the first people's sets are the same, and one more person's are not
pub halved-sets : (ws vs : List ℕ) (people slots low high : ℕ) → low < people → high ≡ suc low → same_sets ws vs low slots ≡ true
    → same_sets ws vs high slots ≡ false → low ≡ first_fail people (same_set slots ws vs)
unfolding same_sets
halved-sets ws vs people slots low high h e a b = scan-halved people low high (same_set slots ws vs) h e a b

-- nobody's sets are compared as the same; and the answer of a comparison that isn't refused
pub none-same : (ws vs : List ℕ) (slots : ℕ) → same_sets ws vs 0 slots ≡ true
unfolding same_sets all
none-same ws vs slots = refl

pub yes-same : (ws vs : List ℕ) (people slots : ℕ) → 1 ≤ people → people ≤ 32 → slots ≤ 1024 → 16 * people ≤ length ws
    → 16 * people ≤ length vs → is_yes (answer_as (number_of (same_sets_row ws vs people slots)) (same_sets ws vs people slots))
    ≡ same_sets ws vs people slots
unfolding answer_as people_ok
yes-same ws vs people slots some few short room more =
    ap is_yes (as-worked (number_of (same_sets_row ws vs people slots)) (Err (number_of (same_sets_row ws vs people slots)))
    (Ok (same_sets ws vs people slots)) (says_same ws vs people slots people-right short room more))
    ∙ by-test (same_sets ws vs people slots) _ (λ t. simp t) (λ f. simp f)
  where
    people-right : people_ok people ≡ true
    people-right = and-true (leb 1 people) (leb people 32) (le-leb 1 people some) (le-leb people 32 few)

-- a first wrong set is one of few
pub first_below : (ws vs : List ℕ) (people slots r : ℕ) → people ≤ 32 → r ≡ first_fail people (same_set slots ws vs)
    → same_sets ws vs people slots ≡ false → r < 32
unfolding same_sets
first_below ws vs people slots r few e n =
    let l = (first-is people (same_set slots ws vs)).within in
    by-test (eqb r people) _
    (λ t. absurd (true≢false (sym (scan-yes people r (same_set slots ws vs) e (omega (arith, eqb-true r people t))) ∙ n)))
    (λ f. ⊎_elim (λ (h : r < people). omega (arith, h, few)) (λ (h : people ≤ r). absurd (eqb-false r people f (omega (arith, e, l, h))))
    (lt-or-ge r people))
