-- What each row of tests says where nothing is refused, and how an answer follows from the number. Assumes nothing.
use Rattle.std.specs.Prelude.{Ok, Err}
use mathlib.Core.Path.{◌≡◌, refl, sym, ap, ap₂, ◌∙◌}
use mathlib.Core.Bool.{true}
use mathlib.Core.List.{List}
use Prim.Native.Nat.{ℕ, ◌+◌, ◌-◌, ◌*◌, ◌≤◌, ◌<◌}
use native.Mathlib.Omega.{arith}
use borrow.Author.Tests.{leb-true, ltb-true, le-leb, lt-leb, lt-ltb}
use lib.Dec.{leb}
use lib.ListN.{length}
use Rattle.paper.specs.Limits.{people_ok, number_of}
use Rattle.paper.specs.Rows.{unless, answer_as, answer_refusal}
use Rattle.paper.proofs.Rows.{passed, all_pass, worked, kept}
use Rattle.paper.proofs.Logic.{number-of-made, or_right, or-second, people-says}
use Rattle.slotset.specs.declared.SlotSet.{SlotSet}
use Rattle.slotset.specs.declared.Changed.{Changed}
use Rattle.slotset.specs.Slots.{put_slots}
use Rattle.slotset.specs.Answers.{length_row, slot_row, stretch_ok, stretch_row, set_row, sets_row, same_sets_row, person_row, person_stretch_row}
use Rattle.slotset.specs.Answers.{changed_as, row_stretch_of}

-- ---- where nothing is refused

pub len-says : (len : ℕ) → number_of (length_row len) ≡ 0 → len ≤ 1024
unfolding length_row
len-says len z = leb-true len 1024 (passed (length_row len) refl z 0)

pub slot-says : (len i : ℕ) → number_of (slot_row len i) ≡ 0 → (len ≤ 1024) × (i < len)
unfolding slot_row
slot-says len i z =
    let h = passed (slot_row len i) refl z in
    (leb-true len 1024 (h 0), ltb-true i len (h 1))

-- a stretch with an index in it ends within the length
within : (len a e : ℕ) → stretch_ok len a e ≡ true → a < e → e ≤ len
unfolding stretch_ok
within len a e t h = leb-true e len (or_right (leb e a) (leb e len) t (lt-leb e a h))

pub stretch-says : (len a e : ℕ) → number_of (stretch_row len a e) ≡ 0 → (len ≤ 1024) × (a < e → e ≤ len)
unfolding stretch_row
stretch-says len a e z =
    let h = passed (stretch_row len a e) refl z in
    (leb-true len 1024 (h 0), within len a e (h 1))

-- one lent set that may be asked
pub set_says : (ws : List ℕ) (len : ℕ) → number_of (set_row ws len) ≡ 0 → (16 ≤ length ws) × (len ≤ 1024)
unfolding set_row
set_says ws len z =
    let h = passed (set_row ws len) refl z in
    (leb-true 16 (length ws) (h 1), leb-true len 1024 (h 0))

-- a row that may be asked
pub record Row (ws : List ℕ) (people person len : ℕ) : Type 0 where
  pub few : people ≤ 32
  pub short : len ≤ 1024
  pub room : 16 * people ≤ length ws
  pub known : person < people
  pub words : 16 * person + 16 ≤ length ws

pub row-says : (ws : List ℕ) (people person len : ℕ) → number_of (person_row ws people person len) ≡ 0 → Row ws people person len
unfolding person_row sets_row
row-says ws people person len z =
    let h = passed (person_row ws people person len) refl z in
    let room : 16 * people ≤ length ws = leb-true _ _ (h 2) in
    let known : person < people = ltb-true _ _ (h 3) in
    record {
      few = (people-says people (h 0)).1;
      short = leb-true _ _ (h 1);
      room = room;
      known = known;
      words = omega arith;
    }

-- and the other way round: a row that passes each test is not refused
pub says_row : (ws : List ℕ) (people person len : ℕ) → people_ok people ≡ true → len ≤ 1024 → 16 * people ≤ length ws → person < people
    → number_of (person_row ws people person len) ≡ 0
unfolding person_row sets_row
says_row ws people person len ok short room known =
    all_pass (person_row ws people person len) (ok, (le-leb _ _ short, (le-leb _ _ room, (lt-ltb _ _ known, tt))))

-- a stretch of it
module _ (ws : List ℕ) (people person len a e : ℕ) where
  pub row-stretch-says : number_of (person_stretch_row ws people person len a e) ≡ 0
      → (number_of (person_row ws people person len) ≡ 0) × (a < e → e ≤ len)
  unfolding person_stretch_row person_row sets_row
  row-stretch-says z =
      let h = passed (person_stretch_row ws people person len a e) refl z in
      (all_pass (person_row ws people person len) (h 0, (h 1, (h 2, (h 3, tt)))), within len a e (h 4))

  pub says-stretch : number_of (person_row ws people person len) ≡ 0 → stretch_ok len a e ≡ true
      → number_of (person_stretch_row ws people person len a e) ≡ 0
  unfolding person_stretch_row person_row sets_row
  says-stretch z t =
      let h = passed (person_row ws people person len) refl z in
      all_pass (person_stretch_row ws people person len a e) (h 0, (h 1, (h 2, (h 3, (t, tt)))))

-- a stretch of a row that is not refused, and that ends within the length, is put
pub stretch-puts : (v : ℕ) (ws : List ℕ) (people person len a e : ℕ) → number_of (person_row ws people person len) ≡ 0 → e ≤ len
    → row_stretch_of v ws people person len a e ≡ put_slots (λ _. v) (16 * person) a (e - a) ws
unfolding row_stretch_of stretch_ok
stretch-puts v ws people person len a e z h =
    worked _ ws _ (says-stretch ws people person len a e z (or-second (leb e a) (leb e len) (le-leb e len h)))

-- everybody's sets in two columns of words
pub says_same : (ws vs : List ℕ) (people len : ℕ) → people_ok people ≡ true → len ≤ 1024 → 16 * people ≤ length ws → 16 * people ≤ length vs
    → number_of (same_sets_row ws vs people len) ≡ 0
unfolding same_sets_row sets_row
says_same ws vs people len ok short room more =
    all_pass (same_sets_row ws vs people len) (ok, (le-leb len 1024 short, (le-leb _ _ room, (le-leb _ _ more, tt))))

pub same-says : (ws vs : List ℕ) (people len : ℕ) → number_of (same_sets_row ws vs people len) ≡ 0
    → (people ≤ 32) × (len ≤ 1024) × (16 * people ≤ length ws) × (16 * people ≤ length vs)
unfolding same_sets_row sets_row
same-says ws vs people len z =
    let h = passed (same_sets_row ws vs people len) refl z in
    ((people-says people (h 0)).1, leb-true _ _ (h 1), leb-true _ _ (h 2), leb-true _ _ (h 3))

-- ---- the answer where the number is none, and where it is one

module _ (n m : ℕ) (e : n ≡ m) where
  module _ (z : n ≡ 0) where
    -- what was worked out, in place of what was there
    pub work-is : {A : Type 0} (old new x : A) → x ≡ new → x ≡ unless m old new
    work-is old new x q = q ∙ sym (worked m old new (sym e ∙ z))

    pub answer-is : {A : Type 0} (x y : A) → x ≡ y → Ok x ≡ answer_as m y
    unfolding answer_as
    answer-is x y q = work-is (Err m) (Ok y) (Ok x) (ap Ok q)

    pub changed-is : (old : SlotSet) (ws vs : List ℕ) (len : ℕ) → ws ≡ vs
        → ◌≡◌ {A = Changed} (record { set = record { words = ws; len = len }; number = n })
        (changed_as m old (record { words = vs; len = len }))
    unfolding changed_as
    changed-is old ws vs len q =
        ap₂ {C = Changed} (λ (s : SlotSet) (k : ℕ). record { set = s; number = k })
        (work-is old (record { words = vs; len = len }) (record { words = ws; len = len })
        (ap {B = SlotSet} (λ (l : List ℕ). record { words = l; len = len }) q)) e

  module _ (z : n ≡ 0 → ⊥) where
    -- what was there stays
    pub old-is : {A : Type 0} (old new : A) → old ≡ unless m old new
    old-is old new = sym (kept m old new (λ q. z (e ∙ q)))

    pub answer-refused : {A : Type 0} (x : A) → Err n ≡ answer_as m x
    unfolding answer_as
    answer-refused x = ap Err e ∙ old-is (Err m) (Ok x)

    pub changed-refused : (s new : SlotSet) → ◌≡◌ {A = Changed} (record { set = s; number = n }) (changed_as m s new)
    unfolding changed_as
    changed-refused s new = ap₂ {C = Changed} (λ (t : SlotSet) (k : ℕ). record { set = t; number = k }) (old-is s new) e

-- ---- an answer has the number that it was made with

pub answer-said : {A : Type 0} (n : ℕ) (x : A) → answer_refusal (answer_as n x) ≡ n
unfolding answer_as unless
answer-said n x = number-of-made answer_refusal n (Ok x) (Err n) refl refl
