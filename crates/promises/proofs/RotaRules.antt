-- Demand 2, the rota, by the laws of rota. Assumes nothing.
use Rattle.std.specs.Prelude.{Ok}
use mathlib.Core.Path.{◌≡◌, refl, sym, ap, ◌∙◌}
use mathlib.Core.Bool.{Bool, true, false, cond, ◌&&◌}
use mathlib.Core.List.{List, []}
use mathlib.Core.Logic.{inl, ◌↔◌, ◌≢◌}
use Prim.Native.Nat.{ℕ, ◌-◌, ◌*◌, ◌≤◌, ◌<◌, zero-le}
use native.Mathlib.Omega.{arith}
use borrow.Author.Tests.{eqb-true, eqb-false}
use lib.Dec.{eqb, leb}
use lib.ListN.{length, get_or, set, length-set}
use lib.Seq.{get_or-set_same, get_or-set_other}
use Rattle.promises.proofs.Numbers.{none-given}
use Rattle.paper.specs.declared.Refusal.{Refusal}
use Rattle.paper.specs.Limits.{nobody, slot_count_ok, number_of}
use Rattle.paper.proofs.Rows.{passed, said}
use Rattle.paper.specs.Rows.{unless, accepted, answer_as, answer_refusal}
use Rattle.paper.specs.Count.{all, sum, count, fill}
use Rattle.paper.proofs.Logic.{by-test, five, both, and-true, zero_of, slot-count-says}
use Rattle.paper.proofs.Count.{all-each, get_d-over-out, length-fill, get_d-fill-in, get_d-fill-out}
use Rattle.slotset.specs.declared.Changed.{Changed}
use Rattle.slotset.specs.Slots.{slot}
use Rattle.slotset.specs.Answers.{person_row, row_slots, slots_of, changed_as, load_of}
use Rattle.slotset.proofs.Puts.{slot_lt}
use Rattle.slotset.proofs.Refusals.{answer-said}
use Rattle.slots.specs.Lent.{slot_room_ok, minutes_at}
use Rattle.units.specs.Units.{unit_start, units_ok, InUnit}
use Rattle.units.proofs.Units.{unit-within}
use Rattle.owners.specs.Derived.{Plan, Derived, portion, worked, unassigned, uncovered, total_of, held, afresh}
use Rattle.owners.specs.Inside.{PlanSound, InStep, Makes}
use Rattle.owners.specs.Recount.{known_at, available_at, recounts, recount_tests}
use Rattle.rota.specs.Entries.{assigned, assign_row}
use Rattle.owners.specs.Entries.{Outcome, outcome, lent_row, from_slots_row, from_slots, emptied, placeless, recount_slots_row}
use Rattle.owners.specs.Entries.{owner_is, minutes_is, unassigned_is, uncovered_is, slots_of_is}
use Rattle.owners.proofs.Sets.{held-own, held-not, sets-out}
use Rattle.owners.proofs.Totals.{both-totals}
use Rattle.owners.proofs.Steps.{afresh-step, afresh-lengths}
use Rattle.owners.proofs.Entered.{lent-right, LentRight, recount-says, says-recount, empty-asks}
use Rattle.rota.proofs.Asked.{Asks, assign-asks}
use Rattle.rota.proofs.Promises.{assign-recounts}
use Rattle.promises.specs.Entries.{Call, no_of, on_rota}
use Rattle.promises.specs.RotaRules.{PassesRecount, PastKept, Made, RotaByRule}
use Rattle.promises.proofs.Tests.{known-test, available-test}
use Rattle.promises.proofs.SetRules.{load_row}
use Rattle.promises.proofs.Calls.{room_ok, accepted-says, play-room, rooms, number-of}

-- ---- minutes

minutes-are : (P : Plan) (o : List ℕ) (w : ℕ)
    → worked P o w ≡ sum P.slots (λ k. cond (eqb (get_or o k 0) w) (get_or P.ends k 0 - get_or P.starts k 0) 0)
unfolding worked portion minutes_at
minutes-are P o w = refl

uncovered-are : (P : Plan) (o : List ℕ) → uncovered P o ≡ worked P o nobody
unfolding uncovered
uncovered-are P o = refl

-- ---- the recount

-- a bit is the one that is due exactly when it is set for the owner
module _ (o ws : List ℕ) (p k : ℕ) where
  pub held-says : slot ws (16 * p) k ≡ held o p k → (slot ws (16 * p) k ≡ 1) ↔ (get_or o k 0 ≡ p)
  held-says e = (
    λ q.
        by-test (eqb (get_or o k 0) p) _ (eqb-true (get_or o k 0) p)
        (λ f. absurd (omega (arith, q, e, held-not o p k (eqb-false (get_or o k 0) p f)))),
    λ q. e ∙ held-own o p k q,
  )

  pub says-held : (slot ws (16 * p) k ≡ 1) ↔ (get_or o k 0 ≡ p) → slot ws (16 * p) k ≡ held o p k
  says-held x =
      by-test (eqb (get_or o k 0) p) _
      (λ t. let q = eqb-true (get_or o k 0) p t in x.1 q ∙ sym (held-own o p k q))
      (λ f.
      let n = eqb-false (get_or o k 0) p f in
      zero_of (slot ws (16 * p) k) (slot_lt ws (16 * p) k) (λ z. n (x.0 z)) ∙ sym (held-not o p k n))

pub recount-by-rule : (P : Plan) (avail : List ℕ) (units : ℕ) (begins o : List ℕ) (D : Derived)
    → (recounts P avail units begins o D ≡ true) ↔ PassesRecount P avail units begins o D
unfolding total_of uncovered unassigned
recount-by-rule P avail units begins o D = (
  λ e.
      let r = recount-says P avail units begins o D e in
      record {
        known = λ k h. (known-test P.people (get_or o k 0)).0 (r.known k h);
        available = λ k h. (available-test avail (get_or o k 0) k).0 (r.available k h);
        uniform = λ u k i. r.even u k i.known i.from i.to;
        sets = λ p k h g. held-says o D.sets p k (r.sets p k h g);
        minutes = r.minutes;
        uncovered = r.totals 0 (omega arith);
        unassigned = r.totals 1 (omega arith);
      },
  λ x. says-recount P avail units begins o D
      record {
        known = λ k h. (known-test P.people (get_or o k 0)).1 (x.known k h);
        available = λ k h. (available-test avail (get_or o k 0) k).1 (x.available k h);
        even = λ u k h a b. x.uniform u k record { known = h; from = a; to = b };
        sets = λ p k h g. says-held o D.sets p k (x.sets p k h g);
        minutes = x.minutes;
        totals = both-totals (λ i. get_or D.totals i 0) (total_of P o) x.uncovered x.unassigned;
      },
)

-- ---- what is made afresh

-- what lies past a rota that was made from owners that keep what lies past the slots
past-afresh : (P : Plan) (o o' : List ℕ) (D : Derived) (x : List ℕ) → P.slots ≤ 1024 → 16 * P.people ≤ length D.sets
    → ((k : ℕ) → P.slots ≤ k → get_or o' k 0 ≡ get_or o k 0)
    → PastKept P.people P.slots o D record { refusal = accepted; owners = o'; derived = afresh P o' D; answers = x }
unfolding afresh
past-afresh P o o' D x few room same = record {
  owners = same;
  minutes = λ p h. get_d-over-out (worked P o') P.people D.minutes p h;
  totals = λ i h. get_d-over-out (total_of P o') 2 D.totals i h;
  sets = λ i b. sets-out P.slots o' D.sets few P.people room i b;
}

-- ---- from_slots

module _ (P : Plan) (avail o : List ℕ) (D : Derived) (e : (from_slots P avail o D).refusal.number ≡ 0) where
  from_is : from_slots P avail o D ≡ record { refusal = accepted; owners = o; derived = afresh P o D; answers = [] }
  unfolding from_slots outcome unless
  from_is = ap (λ (n : ℕ). outcome (placeless n) o D [] o (afresh P o D) []) e

  from-tests : LentRight P avail o D × (all P.slots (known_at P.people o) ≡ true) × (all P.slots (available_at avail o) ≡ true)
  unfolding from_slots outcome from_slots_row lent_row
  from-tests =
      let h = passed (from_slots_row P avail o D) refl e in
      (lent-right P avail o D (h 0) (h 1) (h 4) (h 5) (h 6) (h 7) (h 8) (h 10), h 11, h 12)

  from-recounts : recounts P avail 0 [] o (afresh P o D) ≡ true
  unfolding known_at available_at
  from-recounts =
      let g = from-tests.0 in
      let known = all-each P.slots (known_at P.people o) from-tests.1 in
      let J = afresh-step P o D g.sound.slots-few g.room.owners-room g.room.sets-room g.room.minutes-room g.room.totals-room
      known in
      says-recount P avail 0 [] o (afresh P o D)
      record {
        known = known;
        available = all-each P.slots (available_at avail o) from-tests.2;
        even = λ u k h a b. absurd (omega arith);
        sets = J.sets;
        minutes = J.minutes;
        totals = J.totals;
      }

  from-made : ((from_slots P avail o D).owners ≡ o) × Made P avail o D (from_slots P avail o D)
  from-made = rw from_is (
    refl,
    record {
      recount = (recount-by-rule P avail 0 [] o (afresh P o D)).0 from-recounts;
      past = let g = from-tests.0 in past-afresh P o o D [] g.sound.slots-few g.room.sets-room (λ k h. refl);
    },
  )

-- ---- assign

module _ (P : Plan) (avail o : List ℕ) (D : Derived) (k w : ℕ) (e : (assigned P avail o D k w).refusal.number ≡ 0) where
  checked : Asks P avail o D k w
  unfolding assigned outcome
  checked = assign-asks P avail o D k w (sym (said (assign_row P avail o D k w) refl) ∙ e)

  assigned-is : assigned P avail o D k w
      ≡ record { refusal = accepted; owners = set o k w; derived = afresh P (set o k w) D; answers = [] }
  unfolding assigned outcome unless assign_row recount_slots_row lent_row recount_tests
  assigned-is =
      ap (λ (f : Refusal). outcome f o D [] (set o k w) (afresh P (set o k w) D) [])
      (none-given (assign_row P avail o D k w) refl (sym (said (assign_row P avail o D k w) refl) ∙ e))

  assign-made : let y = assigned P avail o D k w in
      (get_or y.owners k 0 ≡ w) × ((j : ℕ) → j ≢ k → get_or y.owners j 0 ≡ get_or o j 0) × Made P avail o D y
  assign-made =
      let A = checked in
      let other : (j : ℕ) → j ≢ k → get_or (set o k w) j 0 ≡ get_or o j 0 = λ j n. get_or-set_other o k j w 0 n in
      rw assigned-is (
        get_or-set_same o k w 0 (omega (arith, A.slot, A.on.room.owners-room)),
        other,
        record {
          recount =
              (recount-by-rule P avail 0 [] (set o k w) (afresh P (set o k w) D)).0 (assign-recounts P avail o D k w A);
          past =
              past-afresh P o (set o k w) D [] A.on.sound.slots-few A.on.room.sets-room
              (λ j h. other j (λ q. omega (arith, q, A.slot)));
        },
      )

module _ (c : Call) (k w : ℕ) (e : no_of c ≡ 0) where
  abbrev y : Outcome
  y = assigned c.plan c.avail c.owners c.derived k w

  abbrev next : Call
  next = on_rota c y.owners y.derived c.answers

  module _ (z : y.refusal.number ≡ 0) (u j : ℕ) (i : InUnit c.plan.slots c.units c.begins j u)
      (differ : get_or y.owners j 0 ≢ get_or y.owners (unit_start c.begins u) 0) where
    fails : recounts c.plan c.avail c.units c.begins y.owners y.derived ≡ false
    fails =
        by-test (recounts c.plan c.avail c.units c.begins y.owners y.derived) _
        (λ t. absurd (differ (((recount-by-rule c.plan c.avail c.units c.begins y.owners y.derived).0 t).uniform u j i)))
        (λ f. f)

    -- as much room as before
    lengths : (length y.owners ≡ length c.owners) × (length y.derived.sets ≡ length c.derived.sets)
        × (length y.derived.minutes ≡ length c.derived.minutes) × (length y.derived.totals ≡ length c.derived.totals)
    lengths =
        let l = afresh-lengths c.plan (set c.owners k w) c.derived in
        rw (assigned-is c.plan c.avail c.owners c.derived k w z) (length-set c.owners k w, l.0, l.1, l.2)

    room : room_ok c.plan c.avail y.owners y.derived ≡ true
    unfolding room_ok
    room =
        let P = c.plan in
        let r = five (slot_room_ok P.slots P.starts P.ends) (leb (16 * P.people) (length c.avail))
        (leb P.slots (length c.owners)) (leb (16 * P.people) (length c.derived.sets))
        (leb P.people (length c.derived.minutes) && leb 2 (length c.derived.totals)) (accepted-says c e).room in
        let f = both (leb P.people (length c.derived.minutes)) (leb 2 (length c.derived.totals)) r.4 in
        and-true _ _ r.0 (and-true _ _ r.1 (and-true _ _ (ap (leb P.slots) lengths.0 ∙ r.2)
        (and-true _ _ (ap (leb (16 * P.people)) lengths.1 ∙ r.3)
        (and-true _ _ (ap (leb P.people) lengths.2 ∙ f.0) (ap (leb 2) lengths.3 ∙ f.1)))))

    uneven-refused : no_of next ≡ 10
    uneven-refused =
        let A = accepted-says c e in
        number-of next A.few (play-room c A) (rooms c.plan c.avail y.owners y.derived A.counts room) A.slots A.units
        ∙ ap (λ (b : Bool). cond b 0 10) fails

-- ---- an empty rota

module _ (P : Plan) (o : List ℕ) (D : Derived) (e : (emptied P o D).refusal.number ≡ 0) where
  abbrev owners : List ℕ
  owners = fill nobody 0 P.slots o

  abbrev cleared : Derived
  cleared = afresh P owners D

  emptied-is : emptied P o D ≡ record { refusal = accepted; owners = owners; derived = cleared; answers = [] }
  unfolding emptied outcome unless
  emptied-is = ap (λ (n : ℕ). outcome (placeless n) o D [] owners cleared []) e

  -- what its tests say
  clears : PlanSound P × Makes P owners D
  unfolding emptied outcome
  clears = empty-asks P o D e owners (let q : P.slots ≡ P.slots - 0 = omega arith in ap (λ (k : ℕ). fill nobody 0 k o) q)

  nobodys : (k : ℕ) → k < P.slots → get_or owners k 0 ≡ nobody
  nobodys k h =
      get_d-fill-in nobody 0 P.slots o k zero-le (omega arith) (omega (
        arith,
        clears.1.owners-room,
        length-fill nobody 0 P.slots o,
      ))

  -- it is in step, so that all but its units is as worked out
  steps : InStep P owners cleared
  steps =
      let M = clears.1 in
      afresh-step P owners D clears.0.slots-few M.owners-room M.sets-room M.minutes-room M.totals-room M.known

  empty-recounts : (avail : List ℕ) (units : ℕ) (begins : List ℕ) → units_ok P.slots units begins ≡ true
      → PassesRecount P avail units begins owners cleared
  unfolding total_of uncovered unassigned
  empty-recounts avail units begins ok = record {
    known = λ k h. inl (nobodys k h);
    available = λ k h n. absurd (n (nobodys k h));
    uniform = λ u k i.
        let w = unit-within P.slots units begins ok u i.known in
        nobodys k (omega (arith, i.to, w)) ∙ sym (nobodys (unit_start begins u) (omega (arith, i.from, i.to, w)));
    sets = λ p k h g. held-says owners cleared.sets p k (steps.sets p k h g);
    minutes = steps.minutes;
    uncovered = steps.totals 0 (omega arith);
    unassigned = steps.totals 1 (omega arith);
  }

  empty_left : let y = emptied P o D in
      ((k : ℕ) → k < P.slots → get_or y.owners k 0 ≡ nobody)
      × ((avail : List ℕ) (units : ℕ) (begins : List ℕ) → units_ok P.slots units begins ≡ true
      → PassesRecount P avail units begins y.owners y.derived)
      × PastKept P.people P.slots o D y
  empty_left = rw emptied-is (
    nobodys,
    empty-recounts,
    past-afresh P o owners D [] clears.0.slots-few clears.1.sets-room
        (λ k h. get_d-fill-out nobody 0 P.slots o k (λ a b. omega arith)),
  )

-- ---- the readers

number-given : (n k : ℕ) → answer_refusal (answer_as n k) ≡ 0 → answer_as n k ≡ Ok k
unfolding answer_as unless
number-given n k e = ap (λ (m : ℕ). answer_as m k) (sym (answer-said n k) ∙ e)

owner-is : (people slots : ℕ) (o : List ℕ) (k : ℕ) → answer_refusal (owner_is people slots o k) ≡ 0
    → owner_is people slots o k ≡ Ok (get_or o k 0)
unfolding owner_is
owner-is people slots o k e = number-given _ (get_or o k 0) e

minutes-of-is : (people : ℕ) (m : List ℕ) (p : ℕ) → answer_refusal (minutes_is people m p) ≡ 0 → minutes_is people m p ≡
    Ok (get_or m p 0)
unfolding minutes_is
minutes-of-is people m p e = number-given _ (get_or m p 0) e

unassigned-is : (people slots : ℕ) (o : List ℕ) → answer_refusal (unassigned_is people slots o) ≡ 0
    → unassigned_is people slots o ≡ Ok (count slots (λ k. eqb (get_or o k 0) nobody))
unfolding unassigned_is unassigned
unassigned-is people slots o e = number-given _ (unassigned slots o) e

uncovered-is : (P : Plan) (o : List ℕ) → answer_refusal (uncovered_is P o) ≡ 0 → uncovered_is P o ≡ Ok (worked P o nobody)
unfolding uncovered_is uncovered
uncovered-is P o e = number-given _ (worked P o nobody) e

module _ (people slots : ℕ) (ws : List ℕ) (p : ℕ) where
  loaded : slot_count_ok slots ≡ true → slots_of_is people slots ws p ≡ load_of ws people p slots
  unfolding slots_of_is
  loaded t = simp t

  not-loaded : slot_count_ok slots ≡ false → (slots_of_is people slots ws p).number ≡ 1
  unfolding slots_of_is
  not-loaded f = simp f

  load-number : (load_of ws people p slots).number ≡ number_of (person_row ws people p slots)
  unfolding load_of changed_as
  load-number = refl

  slots-of-is : (slots_of_is people slots ws p).number ≡ 0
      → ((slots_of_is people slots ws p).set.len ≡ slots)
      × ((k : ℕ) → k < slots → slots_of (slots_of_is people slots ws p).set k ≡ row_slots ws p k)
  slots-of-is e =
      by-test (slot_count_ok slots) _
      (λ t.
      let q = loaded t in
      let r = load_row ws people p slots (sym load-number ∙ ap (λ (y : Changed). y.number) (sym q) ∙ e) in (
        ap (λ (y : Changed). y.set.len) q ∙ r.0,
        λ k h. ap (λ (y : Changed). slots_of y.set k) q ∙ r.1 k (omega (arith, (slot-count-says slots t).1)),
      ))
      (λ f. absurd (omega (arith, e, not-loaded f)))

pub rota-by-rule : RotaByRule
rota-by-rule = record {
  minutes = minutes-are;
  uncovered = uncovered-are;
  recount = recount-by-rule;
  from-slots = from-made;
  assign = assign-made;
  uneven = λ c k w e z u j i differ. uneven-refused c k w e z u j i differ;
  empty = empty_left;
  owner-answered = owner-is;
  minutes-answered = minutes-of-is;
  unassigned-answered = unassigned-is;
  uncovered-answered = uncovered-is;
  slots-answered = slots-of-is;
}
