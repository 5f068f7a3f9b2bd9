-- Demand 2, targets: each step, and the outcome, are what the paper's section says. Every step on a Float is IEEE 754's. Edition 2 of the
-- last step stands in EditionRules. Assumes nothing.
use Rattle.std.specs.Prelude.{◌≡◌, Bool, true, false, cond, List, [], ◌∷◌, ◌++◌, map, ◌≢◌, ℕ, ◌+◌, ◌-◌, ◌≤◌, ◌<◌, eqb, ℤ, pos, length, get_or, take, drop, Float}
use Rattle.std.specs.Float.{fin, binary64}
use Rattle.std.specs.Float.Ieee.{add, mul, div, sub, lt}
use Rattle.paper.specs.Count as Σ
use Rattle.slotset.specs.Answers.{row_slots}
use Rattle.targets.specs.declared.Standing.{Standing}
use Rattle.targets.specs.declared.Person.{Person}
use Rattle.targets.specs.Figures.{zero_f, whole, person_at, standing_of, pad}
use Rattle.targets.specs.Passes.{rounded, NearestWhole, unrounded, settle, outside, below_zero, share_sum, notional, some}
use Rattle.targets.specs.Passes.{within, again, done, pass, passes, passes_leave}
use Rattle.targets.specs.Remainder.{Takes, sumℤ}
use Rattle.targets.specs.Outcome.{Given, given, compute_targets, demand_in, base_at, standings_in, left_in, taker_in}
use Rattle.promises.specs.SetRules.{TheOne}

-- one person in a pass, x being their unrounded target
pub record Settles (n sum : Float) (l : Standing) : Type 0 where
  pub keeps : l.pinned ≡ true → settle n sum l ≡ l
  -- "Below 0: pinned at 0."
  pub below : l.pinned ≡ false → lt (unrounded n sum l) zero_f ≡ true → ((settle n sum l).pinned ≡ true) × ((settle n sum l).target ≡ 0)
  -- "Else round to the nearest whole number, halves away from zero."
  pub else-rounds : l.pinned ≡ false → lt (unrounded n sum l) zero_f ≡ false
      → ((settle n sum l).pinned ≡ false) × ((settle n sum l).target ≡ rounded (unrounded n sum l))

-- a total over people in order: from `start` on, each unpinned one is added, a pinned one is not
pub record OverUnpinned {A : Type 0} (total : List Standing → A) (start : A) (plus : A → Standing → A) : Type 0 where
  pub none : total [] ≡ start
  pub unpinned : (ls : List Standing) (l : Standing) → l.pinned ≡ false → total (ls ++ (l ∷ [])) ≡ plus (total ls) l
  pub pinned : (ls : List Standing) (l : Standing) → l.pinned ≡ true → total (ls ++ (l ∷ [])) ≡ total ls

-- refusal 8, said of the unrounded targets: one that is worked out breaks the guard
pub record Beyond (demand : ℕ) (ls : List Standing) : Type 0 where
  -- how many passes went before, and the lines that they gave to this one
  pub before : ℕ
  pub standings : List Standing
  -- the person
  pub at : ℕ
  pub few : before ≤ length ls
  pub due : passes before demand (again ls) ≡ again standings
  pub above : lt zero_f (share_sum standings) ≡ true
  pub here : at < length standings
  pub free : (get_or standings at pad).pinned ≡ false
  pub breaks : within (unrounded (whole (notional demand standings)) (share_sum standings) (get_or standings at pad)) ≡ false

pub record TargetsByRule : Type 0 where
  -- what the passes begin with: a line a person, in person order, target 0 and unpinned
  pub standings : (g : Given) (k : ℕ) → k < g.people → get_or (standings_in g) k pad ≡ standing_of
      (person_at g.capacities g.priors k) (base_at g k)
  pub begins : (p : Person) (base : ℕ) → ((standing_of p base).target ≡ 0) × ((standing_of p base).pinned ≡ false)
  -- "Raw share is capacity times demand (fairness 1) or times their available minutes (fairness 0)."
  pub share : (p : Person) (base : ℕ) → (standing_of p base).raw ≡ mul binary64 p.capacity (whole base)
  pub base-1 : (g : Given) (k : ℕ) → g.fairness ≡ 1 → base_at g k ≡ demand_in g
  -- .. which are the lengths of all slots that they are available for
  pub base-0 : (g : Given) (k : ℕ) → g.fairness ≡ 0
      → base_at g k ≡ Σ.sum g.slots (λ j. cond (eqb (row_slots g.avail k j) 1) (get_or g.ends j 0 - get_or g.starts j 0) 0)
  -- "A pass: add the raw shares of the unpinned, in order", each addition rounded once; "N = demand plus their priors", a whole number
  pub sum : OverUnpinned share_sum zero_f (λ s l. add binary64 s l.raw)
  pub n : (demand : ℕ) → OverUnpinned (notional demand) demand (λ n l. n + l.person.prior)
  -- "stop if the sum is not above 0, keeping the targets"
  pub stops : (demand : ℕ) (ls : List Standing) → lt zero_f (share_sum ls) ≡ false → pass demand (again ls) ≡ done ls
  -- above 0, and within the guard: each person is settled with this N and this sum, and another pass is due exactly where somebody unpinned
  -- falls below 0: "Repeat while a pass pinned somebody"
  pub passes : (demand : ℕ) (ls : List Standing)
      → let n = whole (notional demand ls) in
      let s = share_sum ls in
      lt zero_f s ≡ true → some (outside n s) ls ≡ false
      → pass demand (again ls) ≡ cond (some (below_zero n s) ls) (again (map (settle n s) ls)) (done (map (settle n s) ls))
  -- "for each unpinned person work out N * (raw / sum) - prior": quotient, product and difference are rounded each
  pub works_out : (n sum : Float) (l : Standing)
      → unrounded n sum l ≡ sub binary64 (mul binary64 n (div binary64 l.raw sum)) (whole l.person.prior)
  pub settles : (n sum : Float) (l : Standing) → Settles n sum l
  pub rounds : (s : Bool) (m : ℕ) (e : ℤ) → TheOne (NearestWhole (fin s m e)) (rounded (fin s m e))
  -- "at most people + 1 passes": they end by themselves, the bound never cuts them short
  pub ends : (g : Given) (ls : List Standing) → passes_leave (demand_in g) (standings_in g) ≡ again ls → ⊥
  -- "Then demand less the targets goes to the largest unpinned target, the last of equals, or to person 0 if all are pinned."
  pub taker : (g : Given) → TheOne (Takes (left_in g)) (taker_in g)
  -- everybody else's target is what the passes left, not below 0: "one may be negative"
  pub others : (g : Given) (out : List ℤ) (k : ℕ) → g.edition ≡ 0 → (compute_targets g out).number ≡ 0 → k < g.people → k ≢ taker_in g
      → get_or (compute_targets g out).out k (pos 0) ≡ pos (get_or (left_in g) k pad).target
  -- "The targets add up to demand", in each edition
  pub add-up : (g : Given) (out : List ℤ) → (compute_targets g out).number ≡ 0
      → sumℤ (take g.people (compute_targets g out).out) ≡ pos (demand_in g)
  -- past them the buffer stays, refused or not
  pub past : (g : Given) (out : List ℤ) → drop g.people (compute_targets g out).out ≡ drop g.people out
  -- 8, "a guard only", is never given
  pub guard : (g : Given) (out : List ℤ) → (compute_targets g out).number ≡ 8 → ⊥
  -- marked cases 8 to 10 name no fairness: where everybody is available for every slot the two come to the same
  pub agrees : (people slots : ℕ) (starts ends avail : List ℕ) (capacities : List Float) (priors : List ℕ)
      → ((p k : ℕ) → p < people → k < slots → row_slots avail p k ≡ 1) → (edition : ℕ) (out : List ℤ)
      → compute_targets (given people slots starts ends avail capacities priors 0 edition) out
      ≡ compute_targets (given people slots starts ends avail capacities priors 1 edition) out
