-- Laws of the stages of a job. Assumes nothing.
use mathlib.Core.Path.{◌≡◌, refl, sym, ap, ap₂, ◌∙◌}
use mathlib.Core.Bool.{Bool, true, false, cond}
use mathlib.Core.List.{List}
use Prim.Native.Nat.{ℕ, ◌+◌, ◌≤◌, ◌<◌}
use native.Mathlib.Omega.{arith}
use native.Mathlib.Numerals.{add-one}
use borrow.Author.Tests.{le-leb, lt-leb, lt-ltb, le-ltb, eq-eqb, ne_eqb}
use lib.Dec.{leb, eqb}
use lib.ListN.{set, replicate}
use Rattle.paper.specs.Limits.{people_ok, slot_count_ok, nobody}
use Rattle.paper.proofs.Logic.{four}
use Rattle.slots.specs.Freeze.{freeze_of}
use Rattle.owners.specs.Derived.{known_by}
use Rattle.job.specs.File.{owner_slot}
use Rattle.job.specs.Stages.{job_counts_ok, frozen_in, owner_value, placed, record_known, byte_of}

-- ---- a choice by whether a number is 0

pub when-none : {A : Type 0} (n : ℕ) (x y : A) → n ≡ 0 → x ≡ cond (eqb n 0) x y
when-none n x y e = sym (simp (eq-eqb n 0 e))

pub when-some : {A : Type 0} (n : ℕ) (x y : A) → (n ≡ 0 → ⊥) → y ≡ cond (eqb n 0) x y
when-some n x y h = sym (simp (ne_eqb n 0 h))

-- ---- the counts, link by link

module _ (base people ranges draws : ℕ) where
  pub counts-draws : slot_count_ok base ≡ true → people_ok people ≡ true → ranges ≤ 1024
      → leb draws 1024 ≡ job_counts_ok base people ranges draws
  unfolding job_counts_ok
  counts-draws p q r = sym (simp (p, q, le-leb ranges 1024 r))

  pub counts-ranges : slot_count_ok base ≡ true → people_ok people ≡ true → 1024 < ranges → false ≡ job_counts_ok base people ranges draws
  unfolding job_counts_ok
  counts-ranges p q r = sym (simp (p, q, lt-leb ranges 1024 r))

  pub counts-people : slot_count_ok base ≡ true → people_ok people ≡ false → false ≡ job_counts_ok base people ranges draws
  unfolding job_counts_ok
  counts-people p q = sym (simp (p, q))

  pub counts-base : slot_count_ok base ≡ false → false ≡ job_counts_ok base people ranges draws
  unfolding job_counts_ok
  counts-base p = sym (simp p)

  -- what they say where they pass
  pub few-says : job_counts_ok base people ranges draws ≡ true
      → (slot_count_ok base ≡ true) × (people_ok people ≡ true) × (leb ranges 1024 ≡ true) × (leb draws 1024 ≡ true)
  unfolding job_counts_ok
  few-says e = four (slot_count_ok base) (people_ok people) (leb ranges 1024) (leb draws 1024) e

-- ---- frozen flags

pub frozen-none : (slots : ℕ) (starts ends : List ℕ) (freezes instant : ℕ) → freezes ≡ 0
    → replicate 16 0 ≡ frozen_in slots starts ends freezes instant
unfolding frozen_in
frozen-none slots starts ends freezes instant e = when-none freezes (replicate 16 0) _ e

pub frozen-some : (slots : ℕ) (starts ends : List ℕ) (freezes instant : ℕ) → (freezes ≡ 0 → ⊥)
    → (freeze_of slots starts ends (replicate 16 0) instant).flags ≡ frozen_in slots starts ends freezes instant
unfolding frozen_in
frozen-some slots starts ends freezes instant n =
    when-some freezes (replicate 16 0) (freeze_of slots starts ends (replicate 16 0) instant).flags n

-- ---- owners as written

pub placed-none : (s : List ℕ) (at slots : ℕ) → replicate 1024 255 ≡ placed s at slots 0
unfolding placed
placed-none s at slots = refl

pub placed-more : (s : List ℕ) (at slots k : ℕ) (x : List ℕ) (slot owner : ℕ) → x ≡ placed s at slots k → slot ≡ owner_slot s at k
    → owner ≡ owner_value s at k → slot < slots → set x slot owner ≡ placed s at slots (k + 1)
unfolding placed
placed-more s at slots k x slot owner e p q h =
    let t = lt-ltb (owner_slot s at k) slots (omega (arith, p)) in
    ap₂ (λ (i v : ℕ). set x i v) p q ∙ ap (λ (y : List ℕ). set y (owner_slot s at k) (owner_value s at k)) e
    ∙ sym (ap (λ (n : ℕ). placed s at slots n) (add-one k)
    ∙ ap (λ (b : Bool). cond b (set (placed s at slots k) (owner_slot s at k) (owner_value s at k)) (placed s at slots k)) t)

pub placed-not : (s : List ℕ) (at slots k : ℕ) (x : List ℕ) (slot : ℕ) → x ≡ placed s at slots k → slot ≡ owner_slot s at k
    → slots ≤ slot → x ≡ placed s at slots (k + 1)
unfolding placed
placed-not s at slots k x slot e p h =
    let t = le-ltb (owner_slot s at k) slots (omega (arith, p)) in
    e ∙ sym (ap (λ (n : ℕ). placed s at slots n) (add-one k)
    ∙ ap (λ (b : Bool). cond b (set (placed s at slots k) (owner_slot s at k) (owner_value s at k)) (placed s at slots k)) t)

-- a record whose slot exists is known where its owner is
pub record-owner : (s : List ℕ) (at slots people k slot owner : ℕ) → slot ≡ owner_slot s at k → owner ≡ owner_value s at k → slot < slots
    → known_by people owner ≡ record_known s at slots people k
unfolding record_known
record-owner s at slots people k slot owner p q h =
    ap (known_by people) q ∙ sym (simp (lt-ltb (owner_slot s at k) slots (omega (arith, p))))

pub record-slot : (s : List ℕ) (at slots people k slot : ℕ) → slot ≡ owner_slot s at k → slots ≤ slot
    → false ≡ record_known s at slots people k
unfolding record_known
record-slot s at slots people k slot p h = sym (simp (le-ltb (owner_slot s at k) slots (omega (arith, p))))

-- an owner as a byte
pub byte_small : (w : ℕ) → w < 256 → w ≡ byte_of w
unfolding byte_of
byte_small w h = sym (simp (lt-ltb w 256 h))

pub byte-large : (w : ℕ) → 256 ≤ w → nobody ≡ byte_of w
unfolding byte_of
byte-large w h = sym (simp (le-ltb w 256 h))
