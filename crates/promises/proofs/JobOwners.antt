-- The owner records of a job: who has each slot as written, of any number of records. Assumes nothing.
use mathlib.Core.Path.{◌≡◌, refl, sym, ap, ◌∙◌}
use mathlib.Core.Logic.{◌⊎◌, inl, inr, ⊎_elim, ◌↔◌, ◌≢◌}
use mathlib.Core.Bool.{Bool, true, cond}
use mathlib.Core.List.{List, [], ◌∷◌}
use Prim.Native.Nat.{ℕ, zero, suc, ◌≤◌, ◌<◌}
use native.Mathlib.Omega.{arith}
use borrow.Author.Tests.{eqb-true, eqb-false, lt-ltb, ltb-true}
use lib.Dec.{eqb, ltb, lit<, lit≤}
use lib.ListN.{length, get_or}
use Rattle.paper.specs.Limits.{nobody}
use Rattle.paper.proofs.Logic.{by-test, both, and-true}
use Rattle.owners.specs.Derived.{known_by}
use Rattle.records.specs.Fields.{le}
use Rattle.records.specs.Records.{bodies}
use Rattle.job.specs.File.{owner_slot, JobFile}
use Rattle.job.specs.Stages.{counted, block_start, owner_value, placed, record_known}
use Rattle.job.proofs.Layouts.{counts-read, fields_read}
use Rattle.job.proofs.Placed.{named-has, rest-nobody, past-nobody}
use Rattle.promises.specs.JobFields.{owner_in}

-- ---- one record names a slot, or none does

pub record Named (bs : List (List ℕ)) (j : ℕ) : Type 0 where
  pub place : ℕ
  pub within : place < length bs
  pub names : le 2 (get_or bs place []) 0 ≡ j
  pub gives : owner_in bs j ≡ le 2 (get_or bs place []) 2

pub record Unnamed (bs : List (List ℕ)) (j : ℕ) : Type 0 where
  pub none : (k : ℕ) → k < length bs → le 2 (get_or bs k []) 0 ≢ j
  pub gives : owner_in bs j ≡ nobody

pub named-or-not : (bs : List (List ℕ)) (j : ℕ) → Named bs j ⊎ Unnamed bs j
unfolding owner_in
named-or-not [] j = inr record { none = λ k h. absurd (omega arith); gives = refl }
named-or-not (b ∷ bs) j =
    by-test (eqb (le 2 b 0) j) _
    (λ t. inl record { place = 0; within = omega arith; names = eqb-true _ j t; gives = by t })
    (λ f.
    ⊎_elim
    (λ (N : Named bs j).
    inl record { place = suc N.place; within = omega (arith, N.within); names = N.names; gives = by f ∙ N.gives })
    (λ (U : Unnamed bs j). inr record { none = after (eqb-false _ j f) U.none; gives = by f ∙ U.gives })
    (named-or-not bs j))
  where
    by : {t : Bool} → eqb (le 2 b 0) j ≡ t → cond (eqb (le 2 b 0) j) (le 2 b 2) (owner_in bs j) ≡ cond t (le 2 b 2) (owner_in bs j)
    by q = ap (λ (t : Bool). cond t (le 2 b 2) (owner_in bs j)) q

    after : le 2 b 0 ≢ j → ((k : ℕ) → k < length bs → le 2 (get_or bs k []) 0 ≢ j)
        → (k : ℕ) → k < length (b ∷ bs) → le 2 (get_or (b ∷ bs) k []) 0 ≢ j
    after n f zero h = n
    after n f (suc k) h = f k (omega arith)

-- ---- the records of a file

module _ (s : List ℕ) (J : JobFile s) where
  abbrev own : List (List ℕ)
  own = bodies 6 J.records

  -- slot and owner of record k
  pub slot_read : (k : ℕ) → k < length own → owner_slot s (block_start s 5) k ≡ le 2 (get_or own k []) 0
  unfolding owner_slot
  slot_read k h = fields_read s J 5 k 0 2 (lit< tt) h (lit≤ tt)

  pub value_read : (k : ℕ) → k < length own → owner_value s (block_start s 5) k ≡ le 2 (get_or own k []) 2
  unfolding owner_value
  value_read k h = fields_read s J 5 k 2 2 (lit< tt) h (lit≤ tt)

  -- a record that is known names a slot that exists, and nobody or a known person
  pub record-says : (slots people k : ℕ) → k < length own
      → (record_known s (block_start s 5) slots people k ≡ true)
      ↔ ((le 2 (get_or own k []) 0 < slots) × (known_by people (le 2 (get_or own k []) 2) ≡ true))
  unfolding record_known
  record-says slots people k h =
      let i = owner_slot s (block_start s 5) k in
      let w = owner_value s (block_start s 5) k in
      let q = slot_read k h in
      let v = ap (known_by people) (value_read k h) in (
        λ e. let x = both (ltb i slots) (known_by people w) e in let b = ltb-true i slots x.0 in (omega (arith, b, q), sym v ∙ x.1),
        λ x. and-true (ltb i slots) (known_by people w) (lt-ltb i slots (omega (arith, x.0, q))) (v ∙ x.1),
      )

  -- a slot below the count has the owner that is written for it
  module _ (slots : ℕ) (few : slots ≤ 1024) where
    abbrev written : List ℕ
    written = placed s (block_start s 5) slots (counted s 5)

    rise : (k : ℕ) → suc k < counted s 5 → owner_slot s (block_start s 5) k < owner_slot s (block_start s 5) (suc k)
    rise k h =
        let n = counts-read s J 5 (lit< tt) in
        omega (arith, slot_read k (omega arith), slot_read (suc k) (omega arith), J.right.slots-rise k (omega arith))

    pub written_at : (j : ℕ) → j < slots → get_or written j 0 ≡ owner_in own j
    written_at j h =
        let n = counts-read s J 5 (lit< tt) in
        ⊎_elim
        (λ (N : Named own j).
        let k = N.place in
        let q : owner_slot s (block_start s 5) k ≡ j = slot_read k N.within ∙ N.names in
        ap (λ (i : ℕ). get_or written i 0) (sym q)
        ∙ named-has s (block_start s 5) slots few (counted s 5) rise k (omega (arith, N.within)) (omega (arith, q))
        ∙ value_read k N.within ∙ sym N.gives)
        (λ (U : Unnamed own j).
        rest-nobody s (block_start s 5) slots few (counted s 5) j h
        (λ k l q. U.none k (omega (arith, l)) (sym (slot_read k (omega (arith, l))) ∙ q))
        ∙ sym U.gives)
        (named-or-not own j)

    -- past the count nobody stands
    pub written-past : (j : ℕ) → slots ≤ j → j < 1024 → get_or written j 0 ≡ nobody
    written-past j h g = past-nobody s (block_start s 5) slots few (counted s 5) j h g
