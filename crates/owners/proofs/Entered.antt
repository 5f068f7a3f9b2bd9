-- The entries: what a row that passes leaves known, and that only one outcome fits. Assumes nothing.
use Rattle.std.proofs.Common.{◌≡◌, ℕ, ◌+◌, ◌-◌, ◌*◌, ◌<◌, ◌≤◌, Bool, true, false, cond, ◌&&◌, eqb, leb, List, [], ◌∷◌, ◌++◌, length, get_or, sym, refl, ap, ◌∙◌, ap₂, zero-le, arith, eq-eqb, ne_eqb, eqb-true, leb-true}
use Rattle.paper.specs.Limits.{nobody, people_ok, slot_count_ok, Test, test, number_of}
use Rattle.paper.specs.declared.Refusal.{Refusal}
use Rattle.paper.specs.Rows.{refusal_of, next}
use Rattle.paper.specs.Count.{all, sum, count, fill}
use Rattle.paper.proofs.Logic.{five, both, and-true, people-says, slot-count-says}
use Rattle.paper.proofs.Count.{all-each, each_all, in-each, each_in, sum_more, length-fill, get_d-fill-in}
use Rattle.paper.proofs.Rows.{Checked, checked-more, link, ends, said, passed, worked, kept}
use Rattle.slotset.specs.Slots.{slot}
use Rattle.slots.specs.Lent.{slots_ok}
use Rattle.slots.proofs.LentLaws.{slots-sound}
use Rattle.units.specs.Units.{unit_start, unit_end, units_ok}
use Rattle.owners.specs.Derived.{Plan, Derived, known_by, held, unassigned, total_of, afresh}
use Rattle.owners.specs.Derived as figures
use Rattle.owners.specs.Inside.{PlanSound, RotaRoom, Makes, InStep}
use Rattle.owners.specs.Recount.{available_for, known_at, available_at, even_at, set_slot_at, set_at, minutes_ok_at, total_ok_at}
use Rattle.owners.specs.Recount.{first_fail, recount_tests, recounts}
use Rattle.owners.proofs.Minutes.{known-nobody}
use Rattle.owners.proofs.RecountRefusals.{first_on, first_stops}
use Rattle.owners.specs.Entries.{lent_row, recount_row, recount_slots_row, Outcome, outcome, Ended, from_slots_row, from_slots}
use Rattle.owners.specs.Entries.{empty_row, emptied, placeless, uncovered_row}

-- ---- what the first tests leave known

pub plan-sound : (P : Plan) → people_ok P.people ≡ true → slot_count_ok P.slots ≡ true → slots_ok P.slots P.starts P.ends
    ≡ true
    → PlanSound P
plan-sound P a b c =
    let p = people-says P.people a in
    let q = slot-count-says P.slots b in
    record {
      people-some = p.0;
      people-few = p.1;
      slots-some = q.0;
      slots-few = q.1;
      lent = slots-sound P.slots P.starts P.ends c;
    }

pub record LentRight (P : Plan) (avail o : List ℕ) (D : Derived) : Type 0 where
  pub sound : PlanSound P
  pub room : RotaRoom P.people P.slots avail o D
  pub people : people_ok P.people ≡ true
  pub count : slot_count_ok P.slots ≡ true
  pub lent : slots_ok P.slots P.starts P.ends ≡ true

pub lent-right : (P : Plan) (avail o : List ℕ) (D : Derived) → people_ok P.people ≡ true → slot_count_ok P.slots ≡ true
    → leb (16 * P.people) (length avail) ≡ true → leb P.slots (length o) ≡ true → leb (16 * P.people) (length D.sets) ≡ true
    → leb P.people (length D.minutes) ≡ true → leb 2 (length D.totals) ≡ true → slots_ok P.slots P.starts P.ends ≡ true
    → LentRight P avail o D
lent-right P avail o D people count sets owners words minutes totals lent =
    record {
      sound = plan-sound P people count lent;
      room = record {
        avail-room = leb-true _ _ sets;
        owners-room = leb-true _ _ owners;
        sets-room = leb-true _ _ words;
        minutes-room = leb-true _ _ minutes;
        totals-room = leb-true _ _ totals;
      };
      people = people;
      count = count;
      lent = lent;
    }

-- the lent columns are right: the first row alone
pub lent-row-right : (counts room : Bool) (P : Plan) (avail o : List ℕ) (D : Derived) → number_of (lent_row counts room P avail o D) ≡ 0
    → LentRight P avail o D
unfolding lent_row
lent-row-right counts room P avail o D z =
    let h = passed (lent_row counts room P avail o D) refl z in
    lent-right P avail o D (h 0) (h 1) (h 4) (h 5) (h 6) (h 7) (h 8) (h 10)

-- ---- what the recount leaves known

ten : (a b c d e f : Bool)
    → ◌≡◌ {A = ℕ} (cond a (cond b (cond c (cond d (cond e (cond f 0 10) 10) 10) 10) 10) 10) (cond (a && (b && (c && (d && (e &&
    f))))) 0 10)
ten false b c d e f = refl
ten true false c d e f = refl
ten true true false d e f = refl
ten true true true false e f = refl
ten true true true true false f = refl
ten true true true true true f = refl

pub record Recounted (P : Plan) (avail : List ℕ) (units : ℕ) (begins o : List ℕ) (D : Derived) : Type 0 where
  pub known : (k : ℕ) → k < P.slots → known_by P.people (get_or o k 0) ≡ true
  pub available : (k : ℕ) → k < P.slots → available_for avail (get_or o k 0) k ≡ true
  pub even : (u k : ℕ) → u < units → unit_start begins u ≤ k → k < unit_end P.slots units begins u → get_or o k 0 ≡ get_or o (unit_start
      begins u) 0
  pub sets : (p k : ℕ) → p < P.people → k < P.slots → slot D.sets (16 * p) k ≡ held o p k
  pub minutes : (p : ℕ) → p < P.people → get_or D.minutes p 0 ≡ figures.worked P o p
  pub totals : (i : ℕ) → i < 2 → get_or D.totals i 0 ≡ total_of P o i

module _ (P : Plan) (avail : List ℕ) (units : ℕ) (begins o : List ℕ) (D : Derived) where
  pub recount-says : recounts P avail units begins o D ≡ true → Recounted P avail units begins o D
  unfolding recounts known_at available_at even_at set_at set_slot_at minutes_ok_at total_ok_at
  recount-says e =
      let figures-right = all P.people (minutes_ok_at P o D.minutes) && all 2 (total_ok_at P o D.totals) in
      let x = five (all P.slots (known_at P.people o)) (all P.slots (available_at avail o)) (all units (even_at P.slots units
      begins o))
      (all P.people (set_at P.slots o D.sets)) figures-right e in
      let y = both (all P.people (minutes_ok_at P o D.minutes)) (all 2 (total_ok_at P o D.totals)) x.4 in
      record {
        known = λ k h. all-each P.slots (known_at P.people o) x.0 k h;
        available = λ k h. all-each P.slots (available_at avail o) x.1 k h;
        even = λ u k h a b.
            eqb-true _ _ (in-each _ _ (λ j. eqb (get_or o j 0) (get_or o (unit_start begins u) 0)) (all-each units (even_at P.slots
            units begins o) x.2 u h) k a b);
        sets = λ p k h g.
            eqb-true _ _ (all-each P.slots (set_slot_at o D.sets p) (all-each P.people (set_at P.slots o D.sets) x.3
            p h) k g);
        minutes = λ p h. eqb-true _ _ (all-each P.people (minutes_ok_at P o D.minutes) y.0 p h);
        totals = λ i h. eqb-true _ _ (all-each 2 (total_ok_at P o D.totals) y.1 i h);
      }

  -- a rota of which all that holds passes the recount
  pub says-recount : Recounted P avail units begins o D → recounts P avail units begins o D ≡ true
  unfolding recounts known_at available_at even_at set_at set_slot_at minutes_ok_at total_ok_at
  says-recount R =
      let k = each_all P.slots (known_at P.people o) R.known in
      let f = each_all P.slots (available_at avail o) R.available in
      let e = each_all units (even_at P.slots units begins o) (λ u h. each_in _ _ _ (λ j a b. eq-eqb _ _ (R.even u j h a b))) in
      let s = each_all P.people (set_at P.slots o D.sets) (λ p h. each_all P.slots _ (λ j g. eq-eqb _ _ (R.sets p j h g))) in
      let m = each_all P.people (minutes_ok_at P o D.minutes) (λ p h. eq-eqb _ _ (R.minutes p h)) in
      let t = each_all 2 (total_ok_at P o D.totals) (λ i h. eq-eqb _ _ (R.totals i h)) in
      and-true _ _ k (and-true _ _ f (and-true _ _ e (and-true _ _ s (and-true _ _ m t))))

  pub recount-step : RotaRoom P.people P.slots avail o D → Recounted P avail units begins o D → InStep P o D
  recount-step R C =
      record {
        owners-room = R.owners-room;
        sets-room = R.sets-room;
        minutes-room = R.minutes-room;
        totals-room = R.totals-room;
        known = C.known;
        sets = C.sets;
        minutes = C.minutes;
        totals = C.totals;
      }

  -- their number is 10 exactly when it doesn't
  pub recount-number : number_of (recount_tests P avail units begins o D) ≡ cond (recounts P avail units begins o D) 0 10
  unfolding recounts recount_tests number_of
  recount-number =
      ten (all P.slots (known_at P.people o)) (all P.slots (available_at avail o)) (all units (even_at P.slots units begins o))
      (all P.people (set_at P.slots o D.sets)) (all P.people (minutes_ok_at P o D.minutes)) (all 2 (total_ok_at P o D.totals))

  -- the first refusal of the whole row: of lent columns and units, or else of the six
  module _ (counts room : Bool) (f g : Refusal) (ef : f ≡ refusal_of (lent_row counts room P avail o D))
      (eg : g ≡ next f (test 9 (units_ok P.slots units begins))) where
    abbrev front : List Test
    front = lent_row counts room P avail o D ++ (test 9 (units_ok P.slots units begins) ∷ [])

    front-number : g ≡ refusal_of front
    unfolding lent_row
    front-number = checked-more (lent_row counts room P avail o D) _ refl ef (link eg ends)

    pub front-right : g.number ≡ 0 → LentRight P avail o D
    unfolding lent_row
    front-right z =
        let h = passed front refl (sym (said front front-number) ∙ z) in
        lent-right P avail o D (h 0) (h 1) (h 4) (h 5) (h 6) (h 7) (h 8) (h 10)

    pub row_on : (r : Refusal) → g.number ≡ 0 → r ≡ refusal_of (recount_tests P avail units begins o D)
        → r ≡ refusal_of (recount_row counts room P avail units begins o D)
    unfolding recount_row lent_row
    row_on r z q = q ∙ sym (first_on front (recount_tests P avail units begins o D) refl (sym (said front front-number) ∙ z))

    pub row-stops : (g.number ≡ 0 → ⊥) → g ≡ refusal_of (recount_row counts room P avail units begins o D)
    unfolding recount_row lent_row
    row-stops n =
        front-number ∙ sym (first_stops front (recount_tests P avail units begins o D) (λ z. n (said front front-number ∙ z)))

  -- where the recount refuses nothing
  pub record RecountAsks (counts room : Bool) : Type 0 where
    pub counts-ok : counts ≡ true
    pub room-ok : room ≡ true
    pub on : LentRight P avail o D
    pub units-ok : units_ok P.slots units begins ≡ true
    pub passes : recounts P avail units begins o D ≡ true

  pub recount-asks : (counts room : Bool) → number_of (recount_row counts room P avail units begins o D) ≡ 0 → RecountAsks counts room
  unfolding recount_row lent_row recount_tests recounts
  recount-asks counts room z =
      let h = passed (recount_row counts room P avail units begins o D) refl z in
      record {
        counts-ok = h 2;
        room-ok = h 9;
        on = lent-right P avail o D (h 0) (h 1) (h 4) (h 5) (h 6) (h 7) (h 8) (h 10);
        units-ok = h 11;
        passes = and-true _ _ (h 12) (and-true _ _ (h 13) (and-true _ _ (h 14) (and-true _ _ (h 15) (and-true _ _ (h 16) (h 17)))));
      }

module _ (P : Plan) (avail o : List ℕ) (D : Derived) where
  -- the same without units: whatever stands in their place, none is uneven
  module _ (f : Refusal) (ef : f ≡ refusal_of (lent_row true true P avail o D)) where
    pub slots-on : (r : Refusal) (us : List ℕ) → f.number ≡ 0 → r ≡ refusal_of (recount_tests P avail 0 us o D)
        → r ≡ refusal_of (recount_slots_row P avail o D)
    unfolding recount_slots_row lent_row recount_tests all first_fail
    slots-on r us z q =
        q ∙ sym (first_on (lent_row true true P avail o D) (recount_tests P avail 0 [] o D) refl
        (sym (said (lent_row true true P avail o D) ef) ∙ z))

    pub slots-stop : (f.number ≡ 0 → ⊥) → f ≡ refusal_of (recount_slots_row P avail o D)
    unfolding recount_slots_row
    slots-stop n =
        ef ∙ sym (first_stops (lent_row true true P avail o D) (recount_tests P avail 0 [] o D)
        (λ z. n (said (lent_row true true P avail o D) ef ∙ z)))

  pub slots-asks : number_of (recount_slots_row P avail o D) ≡ 0 → LentRight P avail o D × (recounts P avail 0 [] o D ≡ true)
  unfolding recount_slots_row lent_row recount_tests recounts
  slots-asks z =
      let h = passed (recount_slots_row P avail o D) refl z in (
        lent-right P avail o D (h 0) (h 1) (h 4) (h 5) (h 6) (h 7) (h 8) (h 10),
        and-true _ _ (h 11) (and-true _ _ (h 12) (and-true _ _ (h 13) (and-true _ _ (h 14) (and-true _ _ (h 15) (h 16))))),
      )

-- ---- outcomes

module _ (f g : Refusal) (e : f ≡ g) (o : List ℕ) (D : Derived) (x o' : List ℕ) (D' : Derived) (x' : List ℕ) where
  pub ended-refused : (f.number ≡ 0 → ⊥) → Ended (outcome g o D x o' D' x') f o D x
  unfolding outcome
  ended-refused z =
      let t : g.number ≡ 0 → ⊥ = λ q. z (ap (λ (h : Refusal). h.number) e ∙ q) in
      record {
        refusal = e;
        owners = sym (kept g.number o o' t);
        derived = sym (kept g.number D D' t);
        answers = sym (kept g.number x x' t);
      }

  pub ended-yes : f.number ≡ 0 → (p : List ℕ) (E : Derived) (y : List ℕ) → p ≡ o' → E ≡ D' → y ≡ x'
      → Ended (outcome g o D x o' D' x') f p E y
  unfolding outcome
  ended-yes z p E y a b c =
      let t : g.number ≡ 0 = sym (ap (λ (h : Refusal). h.number) e) ∙ z in
      record {
        refusal = e;
        owners = a ∙ sym (worked g.number o o' t);
        derived = b ∙ sym (worked g.number D D' t);
        answers = c ∙ sym (worked g.number x x' t);
      }

-- only one outcome fits
pub one-outcome : (y : Outcome) (f g : Refusal) (o p : List ℕ) (D E : Derived) (x z : List ℕ) → Ended y f o D x → Ended y g p E z
    → (f ≡ g) × (o ≡ p) × (D ≡ E) × (x ≡ z)
one-outcome y f g o p D E x z A B =
    (A.refusal ∙ sym B.refusal, A.owners ∙ sym B.owners, A.derived ∙ sym B.derived, A.answers ∙ sym B.answers)

-- ---- from_slots

module _ (P : Plan) (avail o : List ℕ) (D : Derived) where
  pub from-number : {f r : Refusal} → f ≡ refusal_of (lent_row true true P avail o D)
      → Checked f (test 11 (all P.slots (known_at P.people o)) ∷ test 12 (all P.slots (available_at avail o)) ∷ []) r
      → r ≡ refusal_of (from_slots_row P avail o D)
  unfolding from_slots_row lent_row
  from-number e q = checked-more (lent_row true true P avail o D) _ refl e q

  pub from-asks : number_of (from_slots_row P avail o D) ≡ 0 → PlanSound P × Makes P o D
  unfolding from_slots_row lent_row known_at
  from-asks z =
      let h = passed (from_slots_row P avail o D) refl z in
      let g = lent-right P avail o D (h 0) (h 1) (h 4) (h 5) (h 6) (h 7) (h 8) (h 10) in
      let R = g.room in (
        g.sound,
        record {
          owners-room = R.owners-room;
          sets-room = R.sets-room;
          minutes-room = R.minutes-room;
          totals-room = R.totals-room;
          known = all-each P.slots (known_at P.people o) (h 11);
        },
      )

  module _ (n : ℕ) (e : n ≡ number_of (from_slots_row P avail o D)) where
    pub from-refused : (n ≡ 0 → ⊥) → Ended (from_slots P avail o D) (placeless n) o D []
    unfolding from_slots
    from-refused z = ended-refused (placeless n) _ (ap placeless e) o D [] _ _ _ z

    pub from-yes : (E : Derived) → n ≡ 0 → E ≡ afresh P o D → Ended (from_slots P avail o D) (placeless 0) o E []
    unfolding from_slots
    from-yes E z q = ended-yes (placeless 0) _ (ap placeless (sym z ∙ e)) o D [] _ _ _ refl o E [] refl q refl

-- ---- an empty rota

module _ (P : Plan) (o : List ℕ) (D : Derived) where
  abbrev none : List ℕ
  none = fill nobody 0 P.slots o

  -- owners that are nobody are known
  pub empty-asks : number_of (empty_row P o D) ≡ 0 → (o' : List ℕ) → o' ≡ fill nobody 0 (P.slots - 0) o → PlanSound P × Makes P o' D
  unfolding empty_row
  empty-asks z o' q =
      let h = passed (empty_row P o D) refl z in
      let room : P.slots ≤ length o = leb-true _ _ (h 3) in (
        plan-sound P (h 0) (h 1) (h 7),
        record {
          owners-room = omega (arith, ap length q, length-fill nobody 0 (P.slots - 0) o);
          sets-room = leb-true _ _ (h 4);
          minutes-room = leb-true _ _ (h 5);
          totals-room = leb-true _ _ (h 6);
          known = λ k l.
              ap (λ (x : List ℕ). known_by P.people (get_or x k 0)) q
              ∙ ap (known_by P.people) (get_d-fill-in nobody 0 (P.slots - 0) o k zero-le (omega arith) (omega arith))
              ∙ known-nobody P.people;
        },
      )

  module _ (n : ℕ) (e : n ≡ number_of (empty_row P o D)) where
    pub emptied-refused : (n ≡ 0 → ⊥) → Ended (emptied P o D) (placeless n) o D []
    unfolding emptied
    emptied-refused z = ended-refused (placeless n) _ (ap placeless e) o D [] _ _ _ z

    pub emptied-yes : (o' : List ℕ) (E : Derived) → n ≡ 0 → o' ≡ fill nobody 0 (P.slots - 0) o → E ≡ afresh P o' D
        → Ended (emptied P o D) (placeless 0) o' E []
    unfolding emptied
    emptied-yes o' E z a b =
        let q : P.slots - 0 ≡ P.slots = omega arith in
        let x : o' ≡ none = a ∙ ap (λ (k : ℕ). fill nobody 0 k o) q in
        ended-yes (placeless 0) _ (ap placeless (sym z ∙ e)) o D [] _ _ _ refl o' E [] x (b ∙ ap (λ (l : List ℕ). afresh P l D) x) refl

-- ---- readers

pub uncovered-says : (P : Plan) (o : List ℕ) → number_of (uncovered_row P o) ≡ 0 → PlanSound P × (P.slots ≤ length o)
unfolding uncovered_row
uncovered-says P o z =
    let h = passed (uncovered_row P o) refl z in
    (plan-sound P (h 0) (h 1) (h 4), leb-true _ _ (h 3))

-- how many nobody owns, slot by slot
pub nobody-more : (o : List ℕ) (k n : ℕ) → n ≡ unassigned k o → get_or o k 0 ≡ nobody → n + 1 ≡ unassigned (k + 1) o
unfolding unassigned count
nobody-more o k n e q =
    ap₂ ◌+◌ e (sym (ap (λ (b : Bool). cond b 1 0) (eq-eqb (get_or o k 0) nobody q))) ∙ sym (sum_more k (λ j. cond (eqb (get_or o j 0)
    nobody) 1 0))

pub nobody-same : (o : List ℕ) (k n : ℕ) → n ≡ unassigned k o → (get_or o k 0 ≡ nobody → ⊥) → n ≡ unassigned (k + 1) o
unfolding unassigned count
nobody-same o k n e q =
    e ∙ omega (
      arith,
      sum_more k (λ j. cond (eqb (get_or o j 0) nobody) 1 0),
      ap {B = ℕ} (λ (b : Bool). cond b 1 0) (ne_eqb (get_or o k
          0) nobody q),
    )

pub nobody-none : (o : List ℕ) → 0 ≡ unassigned 0 o
unfolding unassigned count sum
nobody-none o = refl
