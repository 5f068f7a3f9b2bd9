-- Edition 2 of the rule on the remainder: what it is, minute by minute, and what follows from it. That the targets add up to demand is said
-- once for both editions, in TargetRules. Assumes nothing.
use Rattle.std.specs.Prelude.{◌≡◌, true, false, List, [], ◌∷◌, ◌++◌, map, ℕ, ◌-◌, ◌*◌, ◌≤◌, ◌<◌, ℤ, pos, Float, length, get_or, set, drop}
use Rattle.targets.specs.declared.Standing.{Standing}
use Rattle.targets.specs.Figures.{pad}
use Rattle.targets.specs.Passes.{some}
use Rattle.targets.specs.Remainder.{total_of, target_of, adjusted}
use Rattle.targets.specs.SecondEdition.{unpinned, unpin, taking_part, one_more, one_less, give_minute, take_minute, Smallest, LargestFirst}
use Rattle.targets.specs.SecondEdition.{times, handed_out}
use Rattle.targets.specs.Levels.{Levelled}
use Rattle.targets.specs.Outcome.{Given, given, compute_targets, demand_in, left_in, targets_in}
use Rattle.promises.specs.Entries.{Component}
use Rattle.promises.specs.Marked.{one, none}

-- of an accepted call in edition 2, person k's target is t
abbrev pub Holds : Given → List ℤ → ℕ → ℕ → Type 0
Holds g out k t = get_or (compute_targets g out).out k (pos 0) ≡ pos t

pub record EditionsByRule : Type 0 where
  -- edition 1 is the paper's rule, edition 2 the minute-by-minute one over the lines that the same passes leave
  pub first : (g : Given) → g.edition ≡ 0 → targets_in g ≡ adjusted (demand_in g) (left_in g)
  pub second : (g : Given) → g.edition ≡ 1 → targets_in g ≡ map target_of (handed_out (demand_in g) (taking_part (left_in g)))
  -- the unpinned take part; everybody does if nobody is unpinned
  pub unpinned-part : (ls : List Standing) → some unpinned ls ≡ true → taking_part ls ≡ ls
  pub all-part : (ls : List Standing) → some unpinned ls ≡ false → taking_part ls ≡ map unpin ls
  -- a missing minute goes to the smallest target, an extra one is taken from the largest, the lowest number first among equals
  pub gives : (ls : List Standing) (k : ℕ) → Smallest ls k → give_minute ls ≡ set ls k (one_more (get_or ls k pad))
  pub takes : (ls : List Standing) (k : ℕ) → LargestFirst ls k → take_minute ls ≡ set ls k (one_less (get_or ls k pad))
  -- as many as are missing, or as are too many
  pub missing : (demand : ℕ) (ls : List Standing) → total_of ls ≤ demand → handed_out demand ls ≡ times (demand - total_of ls) give_minute ls
  pub extra : (demand : ℕ) (ls : List Standing) → demand < total_of ls → handed_out demand ls ≡ times (total_of ls - demand) take_minute ls
  -- no target is below 0, and none above demand
  pub not-below : (g : Given) (out : List ℤ) → g.edition ≡ 1 → (compute_targets g out).number ≡ 0 → (k : ℕ) → k < g.people
      → (t : ℕ) × Holds g out k t × (t ≤ demand_in g)
  -- while anybody is unpinned, who is pinned keeps 0
  pub pinned : (g : Given) (out : List ℤ) → g.edition ≡ 1 → (compute_targets g out).number ≡ 0 → some unpinned (left_in g) ≡ true
      → (k : ℕ) → k < g.people → (get_or (left_in g) k pad).pinned ≡ true → Holds g out k 0
  -- missing minutes reach a level: of who takes part, those at it or below come to stand on it or one above it, those higher stay
  pub level : (g : Given) (out : List ℤ) → g.edition ≡ 1 → (compute_targets g out).number ≡ 0 → total_of (left_in g) ≤ demand_in g
      → (L : ℕ) × ((k : ℕ) → k < g.people → (get_or (taking_part (left_in g)) k pad).pinned ≡ false
      → (t : ℕ) × Holds g out k t × Levelled L (get_or (taking_part (left_in g)) k pad).target t)

-- ---- the marked cases 7 to 10 in edition 2

-- fairness 1, edition 2, and one slot as long as demand: these targets, whatever the availability
abbrev pub Spread : Component → ℕ → List Float → List ℕ → List ℤ → Type 0
Spread C demand capacities priors zs =
    (avail : List ℕ) (out : List ℤ) → 16 * length capacities ≤ length avail → length capacities ≤ length out
    → C.targets (given (length capacities) 1 (0 ∷ []) (demand ∷ []) avail capacities priors 1 1) out
    ≡ record { number = 0; out = zs ++ drop (length capacities) out }

pub record SecondCases (C : Component) : Type 0 where
  -- 7. Demand 100, three equal: 34, 33, 33
  pub case-7 : Spread C 100 (one ∷ one ∷ one ∷ []) (0 ∷ 0 ∷ 0 ∷ []) (pos 34 ∷ pos 33 ∷ pos 33 ∷ [])
  -- 8. Demand 2, four equal: 0, 0, 1, 1
  pub case-8 : Spread C 2 (one ∷ one ∷ one ∷ one ∷ []) (0 ∷ 0 ∷ 0 ∷ 0 ∷ []) (pos 0 ∷ pos 0 ∷ pos 1 ∷ pos 1 ∷ [])
  -- 9. Demand 100, two equal, priors 300, 0: 0, 100
  pub case-9 : Spread C 100 (one ∷ one ∷ []) (300 ∷ 0 ∷ []) (pos 0 ∷ pos 100 ∷ [])
  -- 10. Demand 100, two of capacity 0: 50, 50
  pub case-10 : Spread C 100 (none ∷ none ∷ []) (0 ∷ 0 ∷ []) (pos 50 ∷ pos 50 ∷ [])
