-- What stands in the way, test by test, and what stands against a way back. Assumes nothing.
use Rattle.std.specs.Prelude.{Option, Some, None, Result, Ok, Err}
use mathlib.Core.Path.{◌≡◌, refl, sym, ap, ap₂, ◌∙◌}
use mathlib.Core.Bool.{Bool, true, false, cond, not, ◌&&◌, ◌||◌}
use mathlib.Core.List.{List, [], ◌∷◌}
use Prim.Native.Nat.{ℕ, ◌≤◌, ◌<◌}
use native.Mathlib.Omega.{arith}
use borrow.Author.Tests.{eq-eqb, ne_eqb, eqb-true, lt-ltb, leb-true}
use lib.Dec.{eqb, leb}
use lib.ListN.{length}
use Rattle.paper.specs.Limits.{nobody, Test, test_in, test, number_of}
use Rattle.paper.specs.declared.Refusal.{Refusal}
use Rattle.paper.specs.Rows.{accepted, refusal_of, answer_as}
use Rattle.paper.specs.Count.{all}
use Rattle.paper.proofs.Logic.{by-test, both, three}
use Rattle.paper.proofs.Rows.{numbered, said}
use Rattle.slotset.specs.Answers.{row_refusal, row_slots}
use Rattle.slotset.specs.Search.{next_set}
use Rattle.units.specs.Units.{unit_start, unit_end}
use Rattle.units.specs.Domains.{clear, unit_frozen}
use Rattle.units.specs.Inside.{is_nothing}
use Rattle.units.proofs.Sets.{clear-law, clear-known}
use Rattle.units.proofs.Units.{units-within}
use Rattle.owners.specs.Derived.{Plan, Derived}
use Rattle.owners.specs.Recount.{first_fail, known_at, available_at, even_at, recount_tests}
use Rattle.owners.specs.Entries.{lent_row, recount_row}
use Rattle.owners.proofs.Scans.{scan-no, scan-yes}
use Rattle.owners.proofs.Entered.{RecountAsks, recount-asks}
use Rattle.owners.proofs.RecountRefusals.{first_on, first_stops}
use Rattle.rota.specs.Lent.{frozen_unit}
use Rattle.rota.specs.Entries.{columns_enough}
use Rattle.wayback.specs.Inside.{found_one, unit_owner, changed, stands_in_way}
use Rattle.wayback.specs.Answers.{way_room_ok, remembered_row, way_row}

-- ---- a frozen unit, by the search for a frozen slot of it

found-not : (x : Result (Option ℕ) ℕ) → found_one x ≡ not (is_nothing x)
found-not (Ok (Some i)) = refl
found-not (Ok None) = refl
found-not (Err n) = refl

pub frozen-by : (slots units : ℕ) (begins frozen : List ℕ) (u a e : ℕ) → a ≡ unit_start begins u → e ≡ unit_end slots units begins u
    → u < units → e ≤ 1024 → 16 ≤ length frozen
    → found_one (answer_as (row_refusal frozen 1 0 e) (next_set (row_slots frozen 0) e a)) ≡ frozen_unit slots units begins frozen u
unfolding frozen_unit unit_frozen
frozen-by slots units begins frozen u a e pa pe h few room =
    found-not (answer_as (row_refusal frozen 1 0 e) (next_set (row_slots frozen 0) e a))
    ∙ ap not (clear-law frozen a e ∙ clear-known frozen a e room few ∙ ap₂ (clear frozen) pa pe)
    ∙ sym (ap (λ (b : Bool). b && not (clear frozen (unit_start begins u) (unit_end slots units begins u))) (lt-ltb u units h))

-- ---- a unit in the way

module _ (slots units : ℕ) (begins frozen a o : List ℕ) (u was : ℕ) (e : was ≡ unit_owner begins a u) where
  pub stands_same : {now : ℕ} → now ≡ unit_owner begins o u → was ≡ now → false ≡ stands_in_way slots units begins frozen a o u
  unfolding stands_in_way changed
  stands_same n q =
      sym (ap (λ (b : Bool). not b && (eqb (unit_owner begins a u) nobody || frozen_unit slots units begins frozen u))
      (eq-eqb _ _ (sym e ∙ q ∙ n)))

  module _ {now : ℕ} (n : now ≡ unit_owner begins o u) (d : was ≡ now → ⊥) where
    other : changed begins a o u ≡ true
    unfolding changed
    other = ap not (ne_eqb _ _ (λ q. d (e ∙ q ∙ sym n)))

    pub stands-unowned : was ≡ nobody → true ≡ stands_in_way slots units begins frozen a o u
    unfolding stands_in_way
    stands-unowned q =
        sym (ap₂ (λ (x y : Bool). x && (y || frozen_unit slots units begins frozen u)) other (eq-eqb _ _ (sym e ∙ q)))

    pub stands-frozen : (was ≡ nobody → ⊥) → (b : Bool) → b ≡ frozen_unit slots units begins frozen u
        → b ≡ stands_in_way slots units begins frozen a o u
    unfolding stands_in_way
    stands-frozen q b r =
        r ∙ sym (ap₂ (λ (x y : Bool). x && (y || frozen_unit slots units begins frozen u)) other (ne_eqb _ _ (λ z. q (e ∙ z))))

-- ---- the remembered owners

module _ (P : Plan) (avail : List ℕ) (units : ℕ) (begins a : List ℕ) where
  abbrev even : ℕ → Bool
  even = even_at P.slots units begins a

  abbrev known : ℕ → Bool
  known = known_at P.people a

  abbrev free : ℕ → Bool
  free = available_at avail a

  -- the row by its three tests
  row_by : Bool → Bool → Bool → Refusal
  row_by x y z =
      refusal_of (test_in 10 x 3 (first_fail units even) 0 ∷ test 11 y ∷ test 12 z ∷ [])

  module _ {u : ℕ} (eu : u ≡ first_fail units even) where
    pub remembered-uneven : u < units → (r : Refusal) → r ≡ record { number = 10; part = 3; place = u; second = 0 }
        → r ≡ refusal_of (remembered_row P avail units begins a)
    unfolding remembered_row refusal_of row_by
    remembered-uneven h r q =
        q ∙ ap {B = Refusal} (λ (k : ℕ). record { number = 10; part = 3; place = k; second = 0 }) eu
        ∙ sym (ap (λ (x : Bool). row_by x (all P.slots known) (all P.slots free)) (scan-no units u even eu h))

    module _ (pu : units ≤ u) {k : ℕ} (ek : k ≡ first_fail P.slots known) where
      pub remembered-unknown : k < P.slots → (r : Refusal) → r ≡ record { number = 11; part = 0; place = 0; second = 0 }
          → r ≡ refusal_of (remembered_row P avail units begins a)
      unfolding remembered_row refusal_of row_by
      remembered-unknown h r q =
          q ∙ sym (ap₂ (λ (x y : Bool). row_by x y (all P.slots free)) (scan-yes units u even eu pu) (scan-no P.slots k known ek h))

      module _ (pk : P.slots ≤ k) {f : ℕ} (ef : f ≡ first_fail P.slots free) where
        pub remembered-away : f < P.slots → (r : Refusal) → r ≡ record { number = 12; part = 0; place = 0; second = 0 }
            → r ≡ refusal_of (remembered_row P avail units begins a)
        unfolding remembered_row refusal_of row_by
        remembered-away h r q =
            q ∙ sym (ap₂ (λ (x y : Bool). row_by x y (all P.slots free)) (scan-yes units u even eu pu) (scan-yes P.slots k known ek pk)
            ∙ ap (row_by true true) (scan-no P.slots f free ef h))

        pub remembered-right : P.slots ≤ f → (r : Refusal) → r ≡ accepted → r ≡ refusal_of (remembered_row P avail units begins a)
        unfolding remembered_row refusal_of row_by
        remembered-right h r q =
            q ∙ sym (ap₂ (λ (x y : Bool). row_by x y (all P.slots free)) (scan-yes units u even eu pu) (scan-yes P.slots k known ek pk)
            ∙ ap (row_by true true) (scan-yes P.slots f free ef h))

-- ---- the whole row

module _ (P : Plan) (avail : List ℕ) (units : ℕ) (begins frozen a o : List ℕ) (D : Derived) (ks fs ss : List ℕ) where
  abbrev front : List Test
  front = recount_row true (way_room_ok P.slots units begins frozen a ks fs ss) P avail units begins o D

  front-numbered : numbered front ≡ true
  unfolding recount_row lent_row recount_tests
  front-numbered = refl

  module _ (room : Bool) (f : Refusal) (e : f ≡ refusal_of (recount_row true room P avail units begins o D))
      (q : room ≡ way_room_ok P.slots units begins frozen a ks fs ss) where
    is_front : f ≡ refusal_of front
    is_front = e ∙ ap (λ (b : Bool). refusal_of (recount_row true b P avail units begins o D)) q

    pub way_on : (r : Refusal) → f.number ≡ 0 → r ≡ refusal_of (remembered_row P avail units begins a)
        → r ≡ refusal_of (way_row P avail units begins frozen a o D ks fs ss)
    unfolding way_row
    way_on r z w = w ∙ sym (first_on front (remembered_row P avail units begins a) front-numbered (sym (said front is_front) ∙ z))

    pub way-stops : (f.number ≡ 0 → ⊥) → f ≡ refusal_of (way_row P avail units begins frozen a o D ks fs ss)
    unfolding way_row
    way-stops n =
        is_front ∙ sym (first_stops front (remembered_row P avail units begins a) (λ z. n (said front is_front ∙ z)))

  -- where nothing stands against it
  pub record WayAsks : Type 0 where
    pub asks : RecountAsks P avail units begins o D true (way_room_ok P.slots units begins frozen a ks fs ss)
    pub recounted : number_of front ≡ 0
    pub remembered : number_of (remembered_row P avail units begins a) ≡ 0
    pub starts : units ≤ length begins
    pub units-within : units ≤ P.slots
    pub units-few : units ≤ 1024
    pub flags : 16 ≤ length frozen
    pub owners-room : P.slots ≤ length a
    pub draws : P.slots ≤ length ks
    pub firsts : P.slots ≤ length fs
    pub seconds : P.slots ≤ length ss

  pub way-asks : {f : Refusal} → f ≡ refusal_of (way_row P avail units begins frozen a o D ks fs ss) → f.number ≡ 0 → WayAsks
  unfolding way_row way_room_ok columns_enough
  way-asks {f} e z =
      let us = remembered_row P avail units begins a in
      let first : number_of front ≡ 0 =
      by-test (eqb (number_of front) 0) _ (λ t. eqb-true _ _ t)
      (λ n.
      let stops = first_stops front us (λ q. mathlib.Core.Bool.true≢false (sym (eq-eqb _ _ q) ∙ n)) in
      sym (said front (e ∙ stops)) ∙ z) in
      let A = recount-asks P avail units begins o D true (way_room_ok P.slots units begins frozen a ks fs ss) first in
      let x = both (leb units (length begins)) _ A.room-ok in
      let y = both (leb 16 (length frozen)) _ x.1 in
      let w = both (leb P.slots (length a)) _ y.1 in
      let v = three (leb P.slots (length ks)) (leb P.slots (length fs)) (leb P.slots (length ss)) w.1 in
      record {
        asks = A;
        recounted = first;
        remembered = sym (said us (e ∙ first_on front us front-numbered first)) ∙ z;
        starts = leb-true _ _ x.0;
        units-within = units-within P.slots units begins A.units-ok;
        units-few = omega (arith, units-within P.slots units begins A.units-ok, A.on.sound.slots-few);
        flags = leb-true _ _ y.0;
        owners-room = leb-true _ _ w.0;
        draws = leb-true _ _ v.0;
        firsts = leb-true _ _ v.1;
        seconds = leb-true _ _ v.2;
      }
