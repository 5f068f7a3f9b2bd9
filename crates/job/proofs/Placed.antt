-- The owners as written in a job's records: who has each slot after the first n of them. Assumes nothing.
use mathlib.Core.Path.{◌≡◌, sym, ap, ◌∙◌, subst}
use mathlib.Core.Bool.{Bool, true≢false, cond}
use mathlib.Core.List.{List}
use mathlib.Core.Logic.{◌≢◌}
use Prim.Native.Nat.{ℕ, zero, suc, ◌≤◌, ◌<◌}
use native.Mathlib.Omega.{arith}
use borrow.Author.Tests.{lt-ltb, ltb-true}
use lib.Dec.{ltb}
use lib.ListN.{length, get_or, set, length-set, length-replicate, get_or-replicate}
use lib.Seq.{get_or-set_same, get_or-set_other}
use Rattle.paper.specs.Limits.{nobody}
use Rattle.paper.proofs.Logic.{by-test, below_suc}
use Rattle.job.specs.File.{owner_slot}
use Rattle.job.specs.Stages.{owner_value, placed}

module _ (s : List ℕ) (at slots : ℕ) (few : slots ≤ 1024) where
  -- one record more: what holds where its slot exists and where it doesn't
  by-record : (m : ℕ) (X : List ℕ → Type 0)
      → (owner_slot s at m < slots → X (set (placed s at slots m) (owner_slot s at m) (owner_value s at m)))
      → ((owner_slot s at m < slots → ⊥) → X (placed s at slots m)) → X (placed s at slots (suc m))
  unfolding placed
  by-record m X f g =
      by-test (ltb (owner_slot s at m) slots) _
      (λ t. subst X (sym (by m t)) (f (ltb-true _ _ t)))
      (λ t. subst X (sym (by m t)) (g (λ h. absurd (true≢false (sym (lt-ltb _ _ h) ∙ t)))))
    where
      by : (m : ℕ) {b : Bool} → ltb (owner_slot s at m) slots ≡ b
          → cond (ltb (owner_slot s at m) slots) (set (placed s at slots m) (owner_slot s at m) (owner_value s at m)) (placed s at slots m)
          ≡ cond b (set (placed s at slots m) (owner_slot s at m) (owner_value s at m)) (placed s at slots m)
      by m q =
          ap (λ (b : Bool). cond b (set (placed s at slots m) (owner_slot s at m) (owner_value s at m)) (placed s at slots m)) q

  pub length-placed : (n : ℕ) → length (placed s at slots n) ≡ 1024
  unfolding placed
  length-placed zero = length-replicate {A = ℕ} 1024 255
  length-placed (suc m) =
      by-record m (λ l. length l ≡ 1024)
      (λ h. length-set (placed s at slots m) (owner_slot s at m) (owner_value s at m) ∙ length-placed m) (λ h. length-placed m)

  -- a slot that no record names is nobody's
  pub rest-nobody : (n j : ℕ) → j < slots → ((k : ℕ) → k < n → owner_slot s at k ≢ j) → get_or (placed s at slots n) j 0 ≡ nobody
  unfolding placed
  rest-nobody zero j h f = get_or-replicate 1024 j 255 0 (omega arith)
  rest-nobody (suc m) j h f =
      let before = rest-nobody m j h (λ k l. f k (omega arith)) in
      by-record m (λ l. get_or l j 0 ≡ nobody)
      (λ _. get_or-set_other (placed s at slots m) (owner_slot s at m) j (owner_value s at m) 0 (λ q. f m (omega arith) (sym q)) ∙ before)
      (λ _. before)

  -- nor is one past the slots anybody's
  pub past-nobody : (n j : ℕ) → slots ≤ j → j < 1024 → get_or (placed s at slots n) j 0 ≡ nobody
  unfolding placed
  past-nobody zero j h g = get_or-replicate 1024 j 255 0 g
  past-nobody (suc m) j h g =
      let before = past-nobody m j h g in
      by-record m (λ l. get_or l j 0 ≡ nobody)
      (λ b. get_or-set_other (placed s at slots m) (owner_slot s at m) j (owner_value s at m) 0 (λ q. omega (arith, b, q)) ∙ before)
      (λ _. before)

  -- rising slots rise from any record to any later one
  slots-rise : (n : ℕ) → ((k : ℕ) → suc k < n → owner_slot s at k < owner_slot s at (suc k)) → (k m : ℕ) → k < m → m < n
      → owner_slot s at k < owner_slot s at m
  slots-rise n f k zero h g = absurd (omega arith)
  slots-rise n f k (suc m) h g =
      below_suc _ h (λ q. omega (arith, ap (owner_slot s at) q, f m g)) (λ b. omega (arith, slots-rise n f k m b (omega arith), f m g))

  -- where slots rise, a slot that a record names is its owner's
  pub named-has : (n : ℕ) → ((k : ℕ) → suc k < n → owner_slot s at k < owner_slot s at (suc k)) → (k : ℕ) → k < n → owner_slot s at k < slots
      → get_or (placed s at slots n) (owner_slot s at k) 0 ≡ owner_value s at k
  named-has zero f k h g = absurd (omega arith)
  named-has (suc m) f k h g =
      below_suc _ h
      (λ q.
      by-record m (λ l. get_or l (owner_slot s at k) 0 ≡ owner_value s at k)
      (λ _.
      ap (λ (j : ℕ). get_or (set (placed s at slots m) (owner_slot s at m) (owner_value s at m)) (owner_slot s at j) 0) q
      ∙ get_or-set_same (placed s at slots m) (owner_slot s at m) (owner_value s at m) 0
      (omega (arith, length-placed m, g, ap (owner_slot s at) q))
      ∙ ap (owner_value s at) (sym q))
      (λ n. absurd (n (subst (λ (j : ℕ). owner_slot s at j < slots) q g))))
      (λ b.
      let before = named-has m (λ i l. f i (omega arith)) k b g in
      let less = slots-rise (suc m) f k m b (omega arith) in
      by-record m (λ l. get_or l (owner_slot s at k) 0 ≡ owner_value s at k)
      (λ _.
      get_or-set_other (placed s at slots m) (owner_slot s at m) (owner_slot s at k) (owner_value s at m) 0 (λ q. omega (arith, q, less))
      ∙ before)
      (λ _. before))
