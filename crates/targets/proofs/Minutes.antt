-- Available minutes: what a person's row tells of a slot, and that they are at most demand. Assumes nothing.
use Rattle.std.specs.Prelude.{Result, Ok, Err}
use Rattle.std.proofs.Common.{◌≡◌, ℕ, ◌<◌, ◌≤◌, Bool, true, false, cond, ◌&&◌, eqb, List, sym, refl, ap, ◌∙◌, ap₂, zero-le, le_refl, arith, lt-ltb, le-leb}
use Rattle.paper.specs.Limits.{people_ok}
use Rattle.paper.specs.Rows.{unless, answer_as}
use Rattle.paper.specs.Count.{sum}
use Rattle.paper.proofs.Count.{sum_mono}
use Rattle.paper.proofs.Logic.{by_cond, and-true}
use Rattle.slots.specs.Lent.{minutes_at, slots_ok}
use Rattle.slots.proofs.LentLaws.{demand-part}
use Rattle.slotset.specs.Slots.{has}
use Rattle.slotset.specs.Answers.{row_refusal, row_slots}
use Rattle.slotset.proofs.Refusals.{says_row}
use Rattle.targets.specs.Figures.{minutes_if_available, available_minutes}
use Rattle.targets.specs.Inside.{RowSound}
use Rattle.targets.proofs.Loops.{differ}

pub if-available-le : (starts ends avail : List ℕ) (person k : ℕ)
    → minutes_if_available starts ends avail person k ≤ minutes_at starts ends k
if-available-le starts ends avail person k =
    by_cond (eqb (row_slots avail person k) 1) (minutes_at starts ends k) 0 (λ (m : ℕ). m ≤ minutes_at starts ends k) (λ t. le_refl _)
    (λ f. zero-le)

-- the available minutes of the first n slots fit
pub available-part : (slots : ℕ) (starts ends avail : List ℕ) (person : ℕ) → slots_ok slots starts ends ≡ true → (n : ℕ) → n ≤ slots
    → sum n (minutes_if_available starts ends avail person) ≤ 100000000
available-part slots starts ends avail person o n h =
    omega (
      arith,
      sum_mono n (minutes_if_available starts ends avail person) (minutes_at starts ends) (λ k l. if-available-le starts ends avail person k),
      demand-part slots starts ends o n h,
    )

pub available-fits : (slots : ℕ) (starts ends avail : List ℕ) (person : ℕ) → slots_ok slots starts ends ≡ true
    → available_minutes slots starts ends avail person ≤ 100000000
unfolding available_minutes
available-fits slots starts ends avail person o = available-part slots starts ends avail person o slots (le_refl slots)

-- ---- what the row tells

-- a row that can be asked is not refused
row-asked : (people person slots : ℕ) (avail : List ℕ) → RowSound people person slots avail → row_refusal avail people person slots ≡ 0
unfolding people_ok
row-asked people person slots avail s =
    says_row avail people person slots (and-true _ _ (le-leb 1 people s.somebody) (le-leb people 32 s.few)) s.slots-few s.words
    s.known

module _ (people person slots : ℕ) (starts ends avail : List ℕ) (k : ℕ) (s : RowSound people person slots avail) (h : k < slots)
    (t : Result Bool ℕ) (e : t ≡ answer_as (row_refusal avail people person slots) (has (row_slots avail person) slots k)) where
  -- the answer is about the slot's bit
  by_bit : t ≡ answer_as 0 (eqb (row_slots avail person k) 1)
  unfolding has
  by_bit =
      e
      ∙ ap₂ answer_as (row-asked people person slots avail s)
      (ap (λ (b : Bool). b && eqb (row_slots avail person k) 1) (lt-ltb k slots h))

  pub answered-yes : t ≡ (Ok true) → {m : ℕ} → m ≡ minutes_at starts ends k → m ≡ minutes_if_available starts ends avail person k
  unfolding answer_as unless
  answered-yes y q = q ∙ go (eqb (row_slots avail person k) 1) (sym by_bit ∙ y)
    where
      go : (b : Bool) → answer_as 0 b ≡ (Ok true) → minutes_at starts ends k ≡ cond b (minutes_at starts ends k) 0
      go true w = refl
      go false w = let z : ◌≡◌ {A = ℕ} 0 1 = cc in differ z

  pub yes-no-refused : t ≡ (Ok false) → 0 ≡ minutes_if_available starts ends avail person k
  unfolding answer_as unless
  yes-no-refused y = go (eqb (row_slots avail person k) 1) (sym by_bit ∙ y)
    where
      go : (b : Bool) → answer_as 0 b ≡ (Ok false) → 0 ≡ cond b (minutes_at starts ends k) 0
      go true w = let z : ◌≡◌ {A = ℕ} 0 1 = cc in differ z
      go false w = refl

  pub answered-refused : {n : ℕ} → t ≡ Err n → ⊥
  unfolding answer_as unless
  answered-refused {n} y = go (eqb (row_slots avail person k) 1) (sym by_bit ∙ y)
    where
      go : (b : Bool) → answer_as 0 b ≡ Err n → ⊥
      go true w = let z : ◌≡◌ {A = ℕ} 0 1 = cc in differ z
      go false w = let z : ◌≡◌ {A = ℕ} 0 1 = cc in differ z
