-- What each test of the tables stands for, by the laws of the crates that have it. Assumes nothing.
use mathlib.Core.Path.{◌≡◌, sym, ap, ◌∙◌}
use mathlib.Core.Bool.{Bool, true, ◌&&◌, cond}
use mathlib.Core.List.{List}
use mathlib.Core.Logic.{◌⊎◌, inl, inr, ◌↔◌, ◌≢◌}
use Prim.Native.Nat.{ℕ, zero, suc, ◌≤◌, ◌<◌, zero-le}
use native.Mathlib.Omega.{arith}
use borrow.Author.Tests.{eq-eqb, ne_eqb, eqb-true, eqb-false, le-leb, leb-true, lt-ltb, ltb-true}
use lib.Dec.{eqb, leb, ltb}
use lib.Ieee.{Float, nan, le}
use lib.ListN.{length, get_or}
use Rattle.paper.specs.Limits.{people_ok, slot_count_ok, nobody}
use Rattle.paper.specs.Count.{all}
use Rattle.paper.proofs.Logic.{by-test, both, three, four, and-true, or_left, or_right, or-second}
use Rattle.paper.proofs.Count.{all-each, each_all}
use Rattle.slotset.specs.Answers.{row_slots}
use Rattle.slots.specs.Lent.{slot_ok, prev_end, slot_ok_at, slot_room_ok, slots_ok}
use Rattle.slots.specs.Ranges.{Ranges, range_count_ok, range_room_ok, range_ok, range_ok_at, ranges_ok}
use Rattle.units.specs.declared.Settings.{Settings}
use Rattle.units.specs.Settings.{boundary_ok, settings_ok}
use Rattle.units.specs.Units.{start_rises, start_ok, units_ok}
use Rattle.units.specs.Domains.{available}
use Rattle.targets.specs.Figures.{zero_f, whole, figures_ok, figures_ok_at, all_figures_ok}
use Rattle.owners.specs.Derived.{known_by}
use Rattle.owners.specs.Recount.{available_for}
use Rattle.owners.proofs.Minutes.{known-below, known-nobody, known-person}
use Rattle.promises.specs.Tests.{SlotsRight, RangesRight, FiguresRight, SettingsRight, UnitsRight, TestsByRule}

-- a test of two
pair-test : (a b : Bool) (A B : Type 0) → (a ≡ true) ↔ A → (b ≡ true) ↔ B → (a && b ≡ true) ↔ (A × B)
pair-test a b A B x y = (
  λ e. let z = both a b e in (x.0 z.0, y.0 z.1),
  λ z. and-true a b (x.1 z.0) (y.1 z.1),
)

le_test : (a b : ℕ) → (leb a b ≡ true) ↔ (a ≤ b)
le_test a b = (leb-true a b, le-leb a b)

-- ---- 1 and 2

people-test : (n : ℕ) → (people_ok n ≡ true) ↔ ((1 ≤ n) × (n ≤ 32))
unfolding people_ok
people-test n = pair-test (leb 1 n) (leb n 32) _ _ (le_test 1 n) (le_test n 32)

slot-count-test : (n : ℕ) → (slot_count_ok n ≡ true) ↔ ((1 ≤ n) × (n ≤ 1024))
unfolding slot_count_ok
slot-count-test n = pair-test (leb 1 n) (leb n 1024) _ _ (le_test 1 n) (le_test n 1024)

range-count-test : (n : ℕ) → (range_count_ok n ≡ true) ↔ (n ≤ 1024)
unfolding range_count_ok
range-count-test n = le_test n 1024

slot-room-test : (slots : ℕ) (starts ends : List ℕ)
    → (slot_room_ok slots starts ends ≡ true) ↔ ((slots ≤ length starts) × (slots ≤ length ends))
unfolding slot_room_ok
slot-room-test slots starts ends =
    pair-test (leb slots (length starts)) (leb slots (length ends)) _ _ (le_test slots (length starts)) (le_test slots (length ends))

range-room-test : (R : Ranges)
    → (range_room_ok R ≡ true) ↔ ((R.count ≤ length R.persons) × (R.count ≤ length R.starts) × (R.count ≤ length R.ends))
unfolding range_room_ok
range-room-test R = (
  λ e.
      let x = three (leb R.count (length R.persons)) (leb R.count (length R.starts)) (leb R.count (length R.ends)) e in
      (leb-true _ _ x.0, leb-true _ _ x.1, leb-true _ _ x.2),
  λ x. and-true _ _ (le-leb _ _ x.0) (and-true _ _ (le-leb _ _ x.1) (le-leb _ _ x.2)),
)

-- ---- 3 and 9

module _ (slots : ℕ) (starts ends : List ℕ) (room : slot_room_ok slots starts ends ≡ true) where
  slots-say : slots_ok slots starts ends ≡ true → SlotsRight slots starts ends
  unfolding slots_ok slot_ok_at slot_ok prev_end
  slots-say e =
      let each : (k : ℕ) → k < slots → (leb (prev_end ends k) (get_or starts k 0) ≡ true) × (ltb (get_or starts k 0) (get_or ends k 0) ≡ true)
      × (leb (get_or ends k 0) 100000000 ≡ true) = λ k h.
      three _ _ _ (all-each slots (slot_ok_at starts ends)
      (both (slot_room_ok slots starts ends) (all slots (slot_ok_at starts ends)) e).1 k h) in
      record {
        lasts = λ k h. ltb-true _ _ (each k h).1;
        capped = λ k h. leb-true _ _ (each k h).2;
        follows = λ k h. leb-true _ _ (each (suc k) h).0;
      }

  say-slots : SlotsRight slots starts ends → slots_ok slots starts ends ≡ true
  unfolding slots_ok slot_ok_at slot_ok prev_end
  say-slots x =
      and-true _ _ room (each_all slots (slot_ok_at starts ends)
      (λ k h. and-true _ _ (after k h) (and-true _ _ (lt-ltb _ _ (x.lasts k h)) (le-leb _ _ (x.capped k h)))))
    where
      after : (k : ℕ) → k < slots → leb (prev_end ends k) (get_or starts k 0) ≡ true
      after zero h = le-leb 0 (get_or starts 0 0) zero-le
      after (suc k) h = le-leb (get_or ends k 0) (get_or starts (suc k) 0) (x.follows k h)

-- ---- 4

ranges-test : (people : ℕ) (R : Ranges) → range_room_ok R ≡ true → (ranges_ok people R ≡ true) ↔ RangesRight people R
unfolding ranges_ok range_ok_at range_ok
ranges-test people R room = (
  λ e.
      let each : (k : ℕ) → k < R.count → (leb (get_or R.starts k 0) (get_or R.ends k 0) ≡ true)
      × (leb (get_or R.ends k 0) 100000000 ≡ true) × (ltb (get_or R.persons k 0) people ≡ true) = λ k h.
      three _ _ _ (all-each R.count (range_ok_at people R) (both (range_room_ok R) (all R.count (range_ok_at people R)) e).1 k h) in
      record {
        ordered = λ k h. leb-true _ _ (each k h).0;
        capped = λ k h. leb-true _ _ (each k h).1;
        known = λ k h. ltb-true _ _ (each k h).2;
      },
  λ x. and-true _ _ room (each_all R.count (range_ok_at people R)
      (λ k h. and-true _ _ (le-leb _ _ (x.ordered k h)) (and-true _ _ (le-leb _ _ (x.capped k h)) (lt-ltb _ _ (x.known k h))))),
)

-- ---- 6

figures-test : (people : ℕ) (capacities : List Float) (priors : List ℕ)
    → (all_figures_ok people capacities priors ≡ true) ↔ FiguresRight people capacities priors
unfolding all_figures_ok figures_ok
figures-test people capacities priors = (
  λ e.
      let each : (k : ℕ) → k < people → (le zero_f (get_or capacities k nan) ≡ true) × (le (get_or capacities k nan) (whole 1000) ≡ true)
      × (leb (get_or priors k 0) 100000000 ≡ true) = λ k h.
      three _ _ _ (all-each people (figures_ok_at capacities priors) e k h) in
      record {
        from-0 = λ k h. (each k h).0;
        to-1000 = λ k h. (each k h).1;
        prior = λ k h. leb-true _ _ (each k h).2;
      },
  λ x. each_all people (figures_ok_at capacities priors)
      (λ k h. and-true _ _ (x.from-0 k h) (and-true _ _ (x.to-1000 k h) (le-leb _ _ (x.prior k h)))),
)

-- ---- 7

boundary-test : (b v : ℕ) → (boundary_ok b v ≡ true) ↔ (((b ≡ 0) × (v ≤ 1024)) ⊎ ((b ≡ 1) × (v ≤ 127)))
unfolding boundary_ok
boundary-test b v = (
  λ e.
      by-test (eqb b 0) _
      (λ t. inl (eqb-true b 0 t, leb-true v 1024 (sym (by t) ∙ e)))
      (λ f. let x = both (eqb b 1) (leb v 127) (sym (by f) ∙ e) in inr (eqb-true b 1 x.0, leb-true v 127 x.1)),
  back,
)
  where
    by : {t : Bool} → eqb b 0 ≡ t → cond (eqb b 0) (leb v 1024) (eqb b 1 && leb v 127) ≡ cond t (leb v 1024) (eqb b 1 && leb v 127)
    by q = ap (λ (t : Bool). cond t (leb v 1024) (eqb b 1 && leb v 127)) q

    back : (((b ≡ 0) × (v ≤ 1024)) ⊎ ((b ≡ 1) × (v ≤ 127))) → cond (eqb b 0) (leb v 1024) (eqb b 1 && leb v 127) ≡ true
    back (inl x) = by (eq-eqb b 0 x.0) ∙ le-leb v 1024 x.1
    back (inr x) =
        by (ne_eqb b 0 (λ z. omega (arith, z, x.0))) ∙ and-true _ _ (eq-eqb b 1 x.0) (le-leb v 127 x.1)

settings-test : (s : Settings) → (settings_ok s ≡ true) ↔ SettingsRight s
unfolding settings_ok
settings-test s = (
  λ e.
      let x = four (leb s.fairness 1) (leb s.lock 1) (leb s.edition 1) (leb s.days 366 && boundary_ok s.boundary s.value) e in
      let y = both (leb s.days 366) (boundary_ok s.boundary s.value) x.3 in
      record {
        fairness = leb-true _ _ x.0;
        lock = leb-true _ _ x.1;
        edition = leb-true _ _ x.2;
        boundary = (boundary-test s.boundary s.value).0 y.1;
        days = leb-true _ _ y.0;
      },
  λ x. and-true _ _ (le-leb _ _ x.fairness) (and-true _ _ (le-leb _ _ x.lock)
      (and-true _ _ (le-leb _ _ x.edition) (and-true _ _ (le-leb _ _ x.days) ((boundary-test s.boundary s.value).1 x.boundary)))),
)

-- ---- 9 of units

module _ (slots units : ℕ) (begins : List ℕ) (room : leb units (length begins) ≡ true) where
  units-say : units_ok slots units begins ≡ true → UnitsRight slots units begins
  unfolding units_ok start_ok
  units-say e =
      let x = three (leb 1 units) (leb units (length begins)) (all units (start_ok slots begins)) e in
      let some = leb-true 1 units x.0 in
      let each : (u : ℕ) → u < units → (start_rises begins u ≡ true) × (ltb (get_or begins u 0) slots ≡ true) = λ u h.
      both _ _ (all-each units (start_ok slots begins) x.2 u h) in
      record {
        some = some;
        from_zero = eqb-true _ _ (each 0 (omega (arith, some))).0;
        rises = λ u h. ltb-true _ _ (each (suc u) h).0;
        below = λ u h. ltb-true _ _ (each u h).1;
      }

  say-units : UnitsRight slots units begins → units_ok slots units begins ≡ true
  unfolding units_ok start_ok
  say-units x =
      and-true _ _ (le-leb 1 units x.some) (and-true _ _ room (each_all units (start_ok slots begins)
      (λ u h. and-true _ _ (after u h) (lt-ltb _ _ (x.below u h)))))
    where
      after : (u : ℕ) → u < units → start_rises begins u ≡ true
      after zero h = eq-eqb _ _ x.from_zero
      after (suc u) h = lt-ltb _ _ (x.rises u h)

-- ---- 11 and 12

pub known-test : (people w : ℕ) → (known_by people w ≡ true) ↔ ((w ≡ nobody) ⊎ (w < people))
known-test people w = (
  λ e. by-test (eqb w nobody) _ (λ t. inl (eqb-true w nobody t)) (λ f. inr (known-below people w e (eqb-false w nobody f))),
  back,
)
  where
    back : ((w ≡ nobody) ⊎ (w < people)) → known_by people w ≡ true
    back (inl q) = ap (known_by people) q ∙ known-nobody people
    back (inr h) = known-person people w h

pub available-test : (avail : List ℕ) (w k : ℕ) → (available_for avail w k ≡ true) ↔ (w ≢ nobody → row_slots avail w k ≡ 1)
unfolding available_for available
available-test avail w k = (
  λ e n. eqb-true _ 1 (or_right (eqb w nobody) _ e (ne_eqb w nobody n)),
  λ f.
      by-test (eqb w nobody) _ (or_left (eqb w nobody) _)
      (λ n. or-second (eqb w nobody) _ (eq-eqb (row_slots avail w k) 1 (f (eqb-false w nobody n)))),
)

pub tests-by-rule : TestsByRule
tests-by-rule = record {
  people = people-test;
  slot-count = slot-count-test;
  range-count = range-count-test;
  slot-room = slot-room-test;
  range-room = range-room-test;
  slots = λ slots starts ends room. (slots-say slots starts ends room, say-slots slots starts ends room);
  ranges = ranges-test;
  figures = figures-test;
  settings = settings-test;
  units = λ slots units begins room. (units-say slots units begins room, say-units slots units begins room);
  known = known-test;
  available = available-test;
}
