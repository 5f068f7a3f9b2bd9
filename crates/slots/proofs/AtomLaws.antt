-- The outcome of splitting. Assumes nothing.
use Rattle.std.specs.Prelude.{Ok, Err}
use mathlib.Core.Path.{◌≡◌, refl, sym, ap, ◌∙◌}
use mathlib.Core.Bool.{true, false}
use mathlib.Core.List.{List, [], ◌∷◌, ◌++◌}
use Prim.Native.Nat.{ℕ, ◌+◌, ◌≤◌, ◌<◌}
use native.Mathlib.Omega.{arith}
use borrow.Author.Tests.{le-leb, lt-leb, leb-true, eq-eqb, ne_eqb}
use lib.Dec.{leb, eqb}
use lib.ListN.{length, get_or, take, drop}
use Rattle.std.proofs.Common.{Option, Some, None}
use Rattle.paper.specs.Limits.{people_ok, slot_count_ok, or_else, Test, test, number_of}
use Rattle.paper.specs.Rows.{unless, refusal_of, next, answer_as}
use Rattle.paper.specs.declared.Refusal.{Refusal}
use Rattle.paper.proofs.Logic.{slot-count-says}
use Rattle.paper.proofs.Rows.{passed, said, checked-more, link, ends, next-pass, next-fail, next-kept}
use Rattle.slots.specs.Lent.{slot_room_ok, slots_ok, SlotsSound}
use Rattle.slots.specs.Ranges.{range_count_ok, range_room_ok, ranges_ok}
use Rattle.slots.specs.Atomic.{is_cut, atom_starts, atom_ends, Base, base_row, atomise_row, atomise_of, starts_of_atoms, ends_of_atoms}
use Rattle.slots.specs.Atomic.{AtomsEnd}
use Rattle.slots.specs.Inside.{RangesSound, MergedFrom, key_cut, or_full, Grown}
use Rattle.slots.proofs.LentLaws.{room_says, slots-sound}
use Rattle.slots.proofs.RangeLaws.{ranges-sound, ranges-known}
use Rattle.slots.proofs.MergedLaws.{front-onto, held-list}
use Rattle.slots.proofs.CutLaws.{full-is, full-not}
use Rattle.slots.proofs.CutMinutes.{cut-is}
use Rattle.slots.proofs.SplitLaws.{starts-same, ends_same}

-- ---- what no refusal before the work leaves known

pub record BaseSound (B : Base) : Type 0 where
  pub slots : SlotsSound B.slots B.starts B.ends
  pub ranges : RangesSound B.ranges
  pub few : B.slots ≤ 1024
  pub room : (1024 ≤ length B.out_starts) × (1024 ≤ length B.out_ends)

module _ (B : Base) where
  sound-of : people_ok B.people ≡ true → slot_count_ok B.slots ≡ true → range_count_ok B.ranges.count ≡ true
      → slot_room_ok 1024 B.out_starts B.out_ends ≡ true → slots_ok B.slots B.starts B.ends ≡ true
      → ranges_ok B.people B.ranges ≡ true → BaseSound B
  sound-of p s c o t r = record {
    slots = slots-sound B.slots B.starts B.ends t;
    ranges = ranges-sound B.people B.ranges p c r;
    few = (slot-count-says B.slots s).1;
    room = room_says 1024 B.out_starts B.out_ends o;
  }

  pub base-says : number_of (base_row B) ≡ 0 → BaseSound B
  unfolding base_row
  base-says e = let h = passed (base_row B) refl e in sound-of (h 0) (h 1) (h 2) (h 5) (h 6) (h 7)

  -- and where nothing is refused after it
  pub atoms-say : number_of (atomise_row B) ≡ 0
      → BaseSound B × (slots_ok B.slots B.starts B.ends ≡ true) × (length (starts_of_atoms B) ≤ 1024)
      × ((k : ℕ) → k < B.ranges.count → get_or B.ranges.persons k 0 < B.people)
  unfolding base_row atomise_row
  atoms-say e =
      let h = passed (atomise_row B) refl e in
      (sound-of (h 0) (h 1) (h 2) (h 5) (h 6) (h 7), h 6, leb-true _ _ (h 8), ranges-known B.people B.ranges (h 7))

-- ---- where 1 and 2 are none

pub record BaseFits (B : Base) : Type 0 where
  pub people : people_ok B.people ≡ true
  pub slots : slot_count_ok B.slots ≡ true
  pub ranges : range_count_ok B.ranges.count ≡ true
  pub lent : slot_room_ok B.slots B.starts B.ends ≡ true
  pub lent-ranges : range_room_ok B.ranges ≡ true
  pub out : slot_room_ok 1024 B.out_starts B.out_ends ≡ true

pub fits-number : (B : Base) → BaseFits B
    → number_of (atomise_row B) ≡ or_else (slots_ok B.slots B.starts B.ends) 3
    (or_else (ranges_ok B.people B.ranges) 4 (or_else (leb (length (starts_of_atoms B)) 1024) 5 0))
unfolding base_row atomise_row number_of
fits-number B F = simp (F.people, F.slots, F.ranges, F.lent, F.lent-ranges, F.out)

-- ---- 5 comes after the others

module _ (B : Base) (f : Refusal) (e : f ≡ refusal_of (base_row B)) where
  abbrev five : Test
  five = test 5 (leb (length (starts_of_atoms B)) 1024)

  with-five : (next f five).number ≡ number_of (atomise_row B)
  unfolding atomise_row base_row
  with-five = said _ (checked-more (base_row B) (five ∷ []) refl e (link refl ends))

  pub after_none : f.number ≡ 0 → leb (length (starts_of_atoms B)) 1024 ≡ true → number_of (atomise_row B) ≡ 0
  after_none z p = sym with-five ∙ ap (λ (g : Refusal). g.number) (next-pass f five p) ∙ z

  pub after-five : f.number ≡ 0 → leb (length (starts_of_atoms B)) 1024 ≡ false → number_of (atomise_row B) ≡ 5
  after-five z p = sym with-five ∙ ap (λ (g : Refusal). g.number) (next-fail f five p z)

  pub after-some : (f.number ≡ 0 → ⊥) → number_of (atomise_row B) ≡ f.number
  after-some h = sym with-five ∙ ap (λ (g : Refusal). g.number) (next-kept f five h)

-- ---- refused, and done

pub atoms-refused : (B : Base) (n : ℕ) → number_of (atomise_row B) ≡ n → (n ≡ 0 → ⊥)
    → AtomsEnd (atomise_of B) (Err n) B.out_starts B.out_ends
unfolding atomise_of answer_as unless
atoms-refused B n e h =
    let z : eqb (number_of (atomise_row B)) 0 ≡ false = ne_eqb _ _ (λ q. h (sym e ∙ q)) in
    record { said = simp z (ap Err (sym e)); starts = simp z; ends = simp z }

module _ (B : Base) (fault : Refusal) (e : fault ≡ refusal_of (base_row B)) (z : fault.number ≡ 0)
    (keys : List ℕ) (n : ℕ) (M : MergedFrom B.ranges keys n)
    (S E S' E' : List ℕ) (r : Option ℕ)
    (G : Grown 0 S E (atom_starts (key_cut (take n keys)) B.slots B.starts B.ends)
    (atom_ends (key_cut (take n keys)) B.slots B.starts B.ends) r S' E') where
  by-minutes : (t : ℕ) → key_cut (take n keys) t ≡ is_cut B.people B.ranges t
  unfolding base_row
  by-minutes t =
      let none = sym (said _ e) ∙ z in
      let known = ranges-known B.people B.ranges (passed (base_row B) refl none 7) in
      let S = (base-says B none).ranges in
      ap (λ (l : List ℕ). key_cut l t) (held-list B.ranges S keys n M) ∙ sym (cut-is B.ranges S B.people known t)

  same-starts : atom_starts (key_cut (take n keys)) B.slots B.starts B.ends ≡ starts_of_atoms B
  same-starts = starts-same _ _ by-minutes B.starts B.ends B.slots

  same_ends : atom_ends (key_cut (take n keys)) B.slots B.starts B.ends ≡ ends_of_atoms B
  same_ends = ends_same _ _ by-minutes B.starts B.ends B.slots

  number_is : r ≡ or_full (length (starts_of_atoms B))
  number_is =
      let q : 0 + length (atom_starts (key_cut (take n keys)) B.slots B.starts B.ends) ≡ length (starts_of_atoms B) = omega
      (arith, ap length same-starts) in
      G.number ∙ ap or_full q

  -- more than 1,024
  pub atoms-full : r ≡ None → AtomsEnd (atomise_of B) (Err 5) B.out_starts B.out_ends
  atoms-full h =
      let over = full-not (length (starts_of_atoms B)) (sym h ∙ number_is) in
      atoms-refused B 5 (after-five B fault e z (lt-leb (length (starts_of_atoms B)) 1024 over)) (λ q. omega arith)

  module _ (m : ℕ) (h : r ≡ Some m) where
    few-atoms : length (starts_of_atoms B) ≤ 1024
    few-atoms = (full-is (length (starts_of_atoms B)) m (sym h ∙ number_is)).1

    pub count-is : m ≡ length (starts_of_atoms B)
    count-is = (full-is (length (starts_of_atoms B)) m (sym h ∙ number_is)).0

    pub room-for-atoms : m ≤ 1024
    room-for-atoms = omega (arith, count-is, few-atoms)

    counted : 0 + length (atom_starts (key_cut (take n keys)) B.slots B.starts B.ends) ≡ m
    counted = omega (arith, ap length same-starts, count-is)

    fits : 0 + length (atom_starts (key_cut (take n keys)) B.slots B.starts B.ends) ≤ 1024
    fits = omega (arith, ap length same-starts, few-atoms)

    pub atoms-done : 1024 ≤ length S' → 1024 ≤ length E' → (F T : List ℕ)
        → F ≡ take m S' ++ drop m B.out_starts → T ≡ take m E' ++ drop m B.out_ends → AtomsEnd (atomise_of B) (Ok m) F T
    unfolding atomise_of answer_as unless
    atoms-done a b F T p q =
        let none : eqb (number_of (atomise_row B)) 0 ≡ true = eq-eqb _ _
        (after_none B fault e z (le-leb (length (starts_of_atoms B)) 1024 few-atoms)) in
        record {
          said = simp none (ap Ok count-is);
          starts =
              simp none
              (p ∙ front-onto S' (starts_of_atoms B) B.out_starts m (rw counted at (G.starts fits) ∙ same-starts)
              (omega (arith, room-for-atoms)));
          ends =
              simp none
              (q ∙ front-onto E' (ends_of_atoms B) B.out_ends m (rw counted at (G.ends fits) ∙ same_ends)
              (omega (arith, room-for-atoms)));
        }
