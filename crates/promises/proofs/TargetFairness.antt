-- Where everybody is available for every slot, fairness 0 and fairness 1 come to the same. Assumes nothing.
use mathlib.Core.Path.{◌≡◌, refl, ap, ap₂}
use mathlib.Core.Bool.{Bool, true, not, ◌||◌, cond}
use mathlib.Core.List.{List, [], ◌∷◌, ◌++◌}
use Prim.Native.Nat.{ℕ, zero, suc, ◌<◌}
use native.Mathlib.Omega.{arith}
use borrow.Author.Tests.{eq-eqb}
use lib.Dec.{leb}
use lib.IntN.{ℤ}
use lib.ListN.{length, drop}
use lib.Ieee.{Float}
use Rattle.paper.specs.Limits.{test, number_of}
use Rattle.paper.specs.Rows.{unless}
use Rattle.paper.proofs.Count.{sum_same}
use Rattle.slotset.specs.Answers.{row_slots}
use Rattle.slots.specs.Lent.{minutes_at, demand_of, slots_ok}
use Rattle.targets.specs.declared.Standing.{Standing}
use Rattle.targets.specs.Figures.{all_figures_ok, person_at, standing_of, up_to, minutes_if_available, available_minutes}
use Rattle.targets.specs.Passes.{passes_leave, standings_left, guarded}
use Rattle.targets.specs.SecondEdition.{shared_out}
use Rattle.targets.specs.Outcome.{given, standings_in, guard_ok, room_row, targets_row, Outcome, compute_targets}

up_to-same : {A : Type 0} (f g : ℕ → A) (n : ℕ) → ((k : ℕ) → k < n → f k ≡ g k) → up_to f n ≡ up_to g n
up_to-same f g zero h = refl
up_to-same {A = A} f g (suc n) h =
    ap₂ (λ (xs : List A) (x : A). xs ++ (x ∷ [])) (up_to-same f g n (λ k l. h k (omega arith))) (h n (omega arith))

module _ (people slots : ℕ) (starts ends avail : List ℕ) (capacities : List Float) (priors : List ℕ)
    (everybody : (p k : ℕ) → p < people → k < slots → row_slots avail p k ≡ 1) where
  -- the available minutes are demand
  all-available : (p : ℕ) → p < people → available_minutes slots starts ends avail p ≡ demand_of slots starts ends
  unfolding available_minutes demand_of
  all-available p h =
      sum_same slots (minutes_if_available starts ends avail p) (minutes_at starts ends)
      (λ k l. ap (λ (b : Bool). cond b (minutes_at starts ends k) 0) (eq-eqb (row_slots avail p k) 1 (everybody p k h l)))

  same-standings : standings_in (given people slots starts ends avail capacities priors 0 0)
      ≡ standings_in (given people slots starts ends avail capacities priors 1 0)
  same-standings =
      up_to-same (λ (k : ℕ). standing_of (person_at capacities priors k) (available_minutes slots starts ends avail k))
      (λ (k : ℕ). standing_of (person_at capacities priors k) (demand_of slots starts ends)) people
      (λ k h. ap (standing_of (person_at capacities priors k)) (all-available k h))

  -- the outcome, by the lines
  abbrev by_standings : ℕ → List ℤ → List Standing → Outcome
  by_standings edition out ls =
      let demand = demand_of slots starts ends in
      let p = passes_leave demand ls in
      let ok = slots_ok slots starts ends in
      let row = room_row (given people slots starts ends avail capacities priors 1 0) (length out)
      ++ (test 6 (all_figures_ok people capacities priors) ∷ test 7 true ∷ test 7 (leb edition 1)
      ∷ test 8 (not ok || guarded p) ∷ test 9 ok ∷ []) in
      record { number = number_of row; out = unless (number_of row) out (shared_out edition demand (standings_left p) ++ drop people out) }

  pub fairness-agrees : (edition : ℕ) (out : List ℤ) → compute_targets (given people slots starts ends avail capacities priors 0 edition) out
      ≡ compute_targets (given people slots starts ends avail capacities priors 1 edition) out
  unfolding compute_targets targets_row room_row guard_ok
  fairness-agrees edition out = ap (by_standings edition out) same-standings
