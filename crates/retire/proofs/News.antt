-- What is new, where it was written: slots, units and who is available. Assumes nothing.
use Rattle.std.specs.Prelude.{Result, Ok, Err, is_ok, Option, Some, None}
use Rattle.std.specs.Result.{result_unwrap_or}
use mathlib.Core.Path.{◌≡◌, refl, sym, ap, subst, ◌∙◌}
use mathlib.Core.Bool.{true≢false, or-false, Bool, true, false, ◌&&◌, ◌||◌}
use mathlib.Core.Logic.{⊎_elim}
use mathlib.Core.List.{List, []}
use Prim.Native.Nat.{ℕ, ◌+◌, ◌*◌, ◌≤◌, ◌<◌}
use native.Mathlib.Omega.{arith}
use borrow.Author.Tests.{le-leb, lt-leb}
use lib.Dec.{leb, eqb}
use lib.ListN.{length}
use Rattle.paper.specs.Limits.{people_ok, slot_count_ok, number_of}
use Rattle.paper.specs.Count.{all, among, onto}
use Rattle.paper.proofs.Logic.{both, and-true, lt-or-ge, people-says, by-test}
use Rattle.paper.proofs.Rows.{all_pass, worked, kept, passed}
use Rattle.paper.proofs.Count.{onto-none, among-le}
use Rattle.paper.specs.Rows.{answer_as}
use Rattle.slotset.specs.Slots.{slot}
use Rattle.slots.specs.Lent.{slot_room_ok, slots_ok, slot_ok_at}
use Rattle.slots.specs.Ranges.{Ranges, ranges, range_count_ok, range_room_ok, range_ok_at, ranges_ok}
use Rattle.slots.specs.Atomic.{is_cut, atom_starts, atom_ends, Base, base, starts_of_atoms, atomise_row, atomise_of, AtomsEnd}
use Rattle.slots.specs.Merged.{merged_row, merged_ranges, columns}
use Rattle.slots.specs.Availability.{availability_row, availability_of, available_bit}
use Rattle.slots.proofs.AtomLaws.{BaseFits, fits-number}
use Rattle.slots.proofs.SplitLaws.{atoms-even}
use Rattle.slots.proofs.Meaning.{set-slot, bit-lt-two}
use Rattle.units.specs.declared.Settings.{Settings}
use Rattle.units.specs.Settings.{settings_ok}
use Rattle.units.specs.Starts.{starts_row, unit_begins, unit_starts, unit_starts_is}
use Rattle.units.specs.Answers.{EndsAs, written_as}
use Rattle.retire.specs.declared.fresh.FreshSlots.{FreshSlots}
use Rattle.retire.specs.Inside.{NewRight, Written, FreshAre, WordsAre}

-- what the tests of base slots and ranges ask besides of their room
slot-room : (n : ℕ) (starts ends : List ℕ) → slots_ok n starts ends ≡ true → slot_room_ok n starts ends ≡ true
unfolding slots_ok
slot-room n starts ends e = (both (slot_room_ok n starts ends) (all n (slot_ok_at starts ends)) e).0

range-room : (people : ℕ) (R : Ranges) → ranges_ok people R ≡ true → range_room_ok R ≡ true
unfolding ranges_ok
range-room people R e = (both (range_room_ok R) (all R.count (range_ok_at people R)) e).0

count-ok : (n : ℕ) → 1 ≤ n → n ≤ 1024 → slot_count_ok n ≡ true
unfolding slot_count_ok
count-ok n a b = and-true (leb 1 n) (leb n 1024) (le-leb 1 n a) (le-leb n 1024 b)

pub says-people : (people : ℕ) → 1 ≤ people → people ≤ 32 → people_ok people ≡ true
unfolding people_ok
says-people people a b = and-true (leb 1 people) (leb people 32) (le-leb 1 people a) (le-leb people 32 b)

-- a count of 0 is refused
count_none : (n : ℕ) → n ≤ 0 → slot_count_ok n ≡ false
unfolding slot_count_ok
count_none n h = ap (λ (b : Bool). b && leb n 1024) (lt-leb 1 n (omega arith))

-- ---- who is available

module _ (people n : ℕ) (starts ends : List ℕ) (R : Ranges) (N : NewRight people n starts ends R) (ws : List ℕ) (room : length ws ≡ 512) where
  roomy : 16 * people ≤ length ws
  roomy = omega (arith, (people-says people N.people-ok).1)

  row-passes : 1 ≤ n → number_of (availability_row people n starts ends R ws) ≡ 0
  unfolding availability_row range_count_ok
  row-passes h =
      all_pass (availability_row people n starts ends R ws) (
        N.people-ok,
        (
          count-ok n h N.base-few,
          (
            le-leb _ _ N.ranges-few,
            (
              slot-room n starts ends N.base_ok,
              (range-room people R N.ranges-ok, (le-leb _ _ roomy, (N.ranges-ok, (N.base_ok, tt)))),
            ),
          ),
        ),
      )

  pub words_are : (vs : List ℕ) → vs ≡ availability_of people n starts ends R ws → WordsAre people n R starts ends vs
  unfolding availability_of
  words_are vs e p k h l =
      ap (λ (x : List ℕ). slot x (16 * p) k) (e ∙ worked _ ws _ (row-passes (omega arith)))
      ∙ set-slot (available_bit R starts ends) (bit-lt-two R starts ends) n N.base-few ws people roomy p k h l

-- ---- units

module _ (s : Settings) (n : ℕ) (starts ends begins : List ℕ) (few : n ≤ 1024) (ok : slots_ok n starts ends ≡ true)
    (right : settings_ok s ≡ true) (room : length begins ≡ 1024) where
  starts-pass : 1 ≤ n → number_of (starts_row s n starts ends begins) ≡ 0
  unfolding starts_row
  starts-pass h =
      all_pass (starts_row s n starts ends begins)
      (count-ok n h few, (slot-room n starts ends ok, (le-leb n (length begins) (omega arith), (right, (ok, tt)))))

  starts-few : length (unit_starts s n starts) ≤ 1024
  unfolding unit_starts
  starts-few = omega (arith, among-le (unit_begins s.lock s.boundary s.value starts) n)

  none-starts : n ≤ 0 → unit_starts s n starts ≡ []
  unfolding unit_starts among
  none-starts h = let z : n ≡ 0 = omega arith in ap (λ (x : ℕ). among (unit_begins s.lock s.boundary s.value starts) x) z

  none_number : n ≤ 0 → number_of (starts_row s n starts ends begins) ≡ 1
  unfolding starts_row number_of
  none_number h = simp (count_none n h)

  pub units-are : (r : Result ℕ ℕ) (b : List ℕ) (m : ℕ) → EndsAs (unit_starts_is s n starts ends begins) r b → m ≡ result_unwrap_or r 0
      → Written (unit_starts s n starts) b m
  unfolding unit_starts_is written_as answer_as
  units-are r b m E q =
      let l = unit_starts s n starts in
      let x = number_of (starts_row s n starts ends begins) in
      let none : n ≤ 0 → (m ≡ length l) × (b ≡ onto l begins) = λ (h : n ≤ 0).
      let o : x ≡ 0 → ⊥ = λ z. omega (arith, none_number h, z) in
      let empty : length l ≡ 0 = ap length (none-starts h) in (
        q ∙ ap (λ (y : Result ℕ ℕ). result_unwrap_or y 0) (E.said ∙ kept x _ _ o) ∙ sym empty,
        E.left ∙ kept x _ _ o ∙ onto-none begins ∙ ap (λ (y : List ℕ). onto y begins) (sym (none-starts h)),
      ) in
      let some : 0 < n → (m ≡ length l) × (b ≡ onto l begins) = λ (h : 0 < n). (
        q ∙ ap (λ (y : Result ℕ ℕ). result_unwrap_or y 0) (E.said ∙ worked x _ _ (starts-pass h)),
        E.left ∙ worked x _ _ (starts-pass h),
      ) in
      let got : (m ≡ length l) × (b ≡ onto l begins) = ⊎_elim some none (lt-or-ge 0 n) in
      record {
        few = starts-few;
        number = got.0;
        before = begins;
        long = room;
        entries = got.1;
      }

-- ---- slots

-- none
pub none_written : (l : List ℕ) (column : List ℕ) → l ≡ [] → length column ≡ 1024 → Written l column 0
none_written l column e room =
    let empty : length l ≡ 0 = ap length e in
    record {
      few = omega arith;
      number = sym empty;
      before = column;
      long = room;
      entries = onto-none column ∙ ap (λ (y : List ℕ). onto y column) (sym e);
    }

pub no-starts : (cut : ℕ → Bool) (n : ℕ) (starts ends : List ℕ) → n ≡ 0 → atom_starts cut n starts ends ≡ []
unfolding atom_starts
no-starts cut n starts ends z = ap (λ (x : ℕ). atom_starts cut x starts ends) z

pub no-ends : (cut : ℕ → Bool) (n : ℕ) (starts ends : List ℕ) → n ≡ 0 → atom_ends cut n starts ends ≡ []
unfolding atom_ends
no-ends cut n starts ends z = ap (λ (x : ℕ). atom_ends cut x starts ends) z

module _ (people n : ℕ) (starts ends : List ℕ) (R : Ranges) (N : NewRight people n starts ends R) (a b : List ℕ) (ra : length a ≡ 1024)
    (rb : length b ≡ 1024) (some : n ≡ 0 → ⊥) where
  abbrev B : Base
  B = base n starts ends people R a b

  abbrev A : List ℕ
  A = starts_of_atoms B

  fits : BaseFits B
  unfolding range_count_ok slot_room_ok
  fits = record {
    people = N.people-ok;
    slots = count-ok n (omega (arith, some)) N.base-few;
    ranges = le-leb _ _ N.ranges-few;
    lent = slot-room n starts ends N.base_ok;
    lent-ranges = range-room people R N.ranges-ok;
    out = and-true _ _ (le-leb 1024 (length a) (omega arith)) (le-leb 1024 (length b) (omega arith));
  }

  number-few : length A ≤ 1024 → number_of (atomise_row B) ≡ 0
  number-few h = fits-number B fits ∙ simp (N.base_ok, N.ranges-ok, le-leb (length A) 1024 h)

  number-full : 1024 < length A → number_of (atomise_row B) ≡ 5
  number-full h = fits-number B fits ∙ simp (N.base_ok, N.ranges-ok, lt-leb (length A) 1024 h)

  module _ (r : Result ℕ ℕ) (s e : List ℕ) (E : AtomsEnd (atomise_of B) r s e) where
    -- refused where they are more than 1,024, and nowhere else
    ok-full : 1024 < length A → is_ok r ≡ false
    unfolding atomise_of answer_as
    ok-full h = ap is_ok (E.said ∙ kept (number_of (atomise_row B)) _ _ (λ z. omega (arith, number-full h, z)))

    ok-few : length A ≤ 1024 → r ≡ Ok (length A)
    unfolding atomise_of answer_as
    ok-few h = E.said ∙ worked (number_of (atomise_row B)) _ _ (number-few h)

    pub slots-full : (k : ℕ) → r ≡ Err k → 1024 < length (atom_starts (is_cut people R) n starts ends)
    slots-full k q =
        ⊎_elim (λ (h : 1024 < length A). h)
        (λ (h : length A ≤ 1024). absurd (true≢false (ap is_ok (sym (ok-few h) ∙ q)))) (lt-or-ge 1024 (length A))

    module _ (m : ℕ) (q : r ≡ Ok m) where
      few-then : length A ≤ 1024
      few-then =
          ⊎_elim (λ (h : 1024 < length A). absurd (true≢false (sym (ap is_ok q) ∙ ok-full h)))
          (λ (h : length A ≤ 1024). h) (lt-or-ge 1024 (length A))

      number-then : m ≡ length A
      number-then = ap (λ (y : Result ℕ ℕ). result_unwrap_or y 0) (sym q ∙ ok-few few-then)

      pub starts-are : Written (atom_starts (is_cut people R) n starts ends) s m
      unfolding atomise_of
      starts-are = record {
        few = few-then;
        number = number-then;
        before = a;
        long = ra;
        entries = E.starts ∙ worked (number_of (atomise_row B)) _ _ (number-few few-then);
      }

      pub ends-are : Written (atom_ends (is_cut people R) n starts ends) e m
      unfolding atomise_of
      ends-are =
          let same = atoms-even (is_cut people R) n starts ends in
          record {
            few = omega (arith, same, few-then);
            number = number-then ∙ (let z : length A ≡ length (atom_ends (is_cut people R) n starts ends) = omega (arith, same) in z);
            before = b;
            long = rb;
            entries = E.ends ∙ worked (number_of (atomise_row B)) _ _ (number-few few-then);
          }

-- ---- how the tests of 4 and 5 are asked

-- merging refuses ranges by 4 alone, where counts and room are right
module _ (people : ℕ) (R : Ranges) (p s e : List ℕ) (ok : people_ok people ≡ true) (few : R.count ≤ 1024) (room : range_room_ok R ≡ true)
    (lp : length p ≡ 1024) (ls : length s ≡ 1024) (le : length e ≡ 1024) where
  roomy-out : range_room_ok (ranges R.count p s e) ≡ true
  unfolding range_room_ok
  roomy-out =
      and-true _ _ (le-leb R.count (length p) (omega arith))
      (and-true _ _ (le-leb R.count (length s) (omega arith)) (le-leb R.count (length e) (omega arith)))

  merge-passes : ranges_ok people R ≡ true → number_of (merged_row people R (columns p s e)) ≡ 0
  unfolding merged_row range_count_ok
  merge-passes t = all_pass (merged_row people R (columns p s e)) (ok, (le-leb R.count 1024 few, (room, (roomy-out, (t, tt)))))

  merge-fails : ranges_ok people R ≡ false → number_of (merged_row people R (columns p s e)) ≡ 0 → ⊥
  unfolding merged_row
  merge-fails f z = true≢false (sym (passed (merged_row people R (columns p s e)) refl z 4) ∙ f)

  pub ranges-by : (r : Result ℕ ℕ) → r ≡ (merged_ranges people R (columns p s e)).answer → is_ok r ≡ ranges_ok people R
  unfolding merged_ranges answer_as
  ranges-by r q =
      by-test (ranges_ok people R) _
      (λ t. ap is_ok (q ∙ worked (number_of (merged_row people R (columns p s e))) _ _ (merge-passes t)) ∙ sym t)
      (λ f. ap is_ok (q ∙ kept (number_of (merged_row people R (columns p s e))) _ _ (merge-fails f)) ∙ sym f)

-- what is new, by the answer
pub fresh_some : (A B : List ℕ) (r : Option FreshSlots) (f : FreshSlots) → FreshAre A B r → r ≡ Some f → Written A f.starts f.count × Written B f.ends f.count
fresh_some A B r f W e = subst (FreshAre A B) e W

pub fresh_none : (A B : List ℕ) (r : Option FreshSlots) → FreshAre A B r → r ≡ None → 1024 < length A
fresh_none A B r W e = subst (FreshAre A B) e W

-- new slots fit beside others exactly where their count does; more than 1,024 never do
pub fits_by : (fault kept : ℕ) (l column : List ℕ) (n : ℕ) → Written l column n
    → (eqb fault 9 || leb (kept + n) 1024) ≡ (eqb fault 9 || leb (kept + length l) 1024)
fits_by fault kept l column n W = ap (λ (x : ℕ). eqb fault 9 || leb (kept + x) 1024) W.number

pub fits_never : (fault kept : ℕ) (l : List ℕ) → 1024 < length l → eqb fault 9 ≡ (eqb fault 9 || leb (kept + length l) 1024)
fits_never fault kept l h =
    sym (or-false (eqb fault 9)) ∙ ap (λ (b : Bool). eqb fault 9 || b) (sym (lt-leb (kept + length l) 1024 (omega arith)))
