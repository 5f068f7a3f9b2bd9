-- The passes of the targets as the paper has them: each pass settles everybody, and passes go on while one pinned somebody. Assumes nothing.
use Rattle.std.specs.Prelude.{◌≡◌, true, false, List, [], ◌∷◌, ◌⊎◌, ℕ, zero, suc, ℤ, Float}
use Rattle.std.specs.Float.Ieee.{lt}
use Rattle.targets.specs.declared.Standing.{Standing}
use Rattle.targets.specs.Figures.{zero_f, whole}
use Rattle.targets.specs.Passes.{rounded, unrounded, share_sum, notional}
use Rattle.targets.specs.Outcome.{Given, compute_targets, demand_in, standings_in, left_in}

-- one person before a pass and after it, n being N and sum the sum of the shares: who they are and what their raw share is stays; whoever is
-- pinned keeps their target; below 0 is pinned at 0; else the target is rounded
pub record Settled (n sum : Float) (l m : Standing) : Type 0 where
  pub person : m.person ≡ l.person
  pub raw : m.raw ≡ l.raw
  pub pinned : l.pinned ≡ true → (m.pinned ≡ true) × (m.target ≡ l.target)
  pub below : l.pinned ≡ false → lt (unrounded n sum l) zero_f ≡ true → (m.pinned ≡ true) × (m.target ≡ 0)
  pub rounds : l.pinned ≡ false → lt (unrounded n sum l) zero_f ≡ false → (m.pinned ≡ false) × (m.target ≡ rounded (unrounded n sum l))

-- everybody, in order
abbrev pub EachSettled : Float → Float → List Standing → List Standing → Type 0
EachSettled n sum [] [] = Unit
EachSettled n sum [] (m ∷ ms) = ⊥
EachSettled n sum (l ∷ ls) [] = ⊥
EachSettled n sum (l ∷ ls) (m ∷ ms) = Settled n sum l m × EachSettled n sum ls ms

-- somebody who wasn't pinned before the pass is pinned after it
abbrev pub PinsSomebody : List Standing → List Standing → Type 0
PinsSomebody [] ms = ⊥
PinsSomebody (l ∷ ls) [] = ⊥
PinsSomebody (l ∷ ls) (m ∷ ms) = ((l.pinned ≡ false) × (m.pinned ≡ true)) ⊎ PinsSomebody ls ms

-- one pass over ls: the sum of the unpinned shares is above 0, and it leaves ms
pub record PassOver (demand : ℕ) (ls ms : List Standing) : Type 0 where
  pub above : lt zero_f (share_sum ls) ≡ true
  pub each : EachSettled (whole (notional demand ls)) (share_sum ls) ls ms

-- at most k passes over ls leave `left`: "stop if the sum is not above 0, keeping the targets"; "Repeat while a pass pinned somebody"
abbrev pub Passing : ℕ → ℕ → List Standing → List Standing → Type 0
Passing zero demand ls left = ⊥
Passing (suc k) demand ls left =
    ((lt zero_f (share_sum ls) ≡ false) × (left ≡ ls))
    ⊎ ((PassOver demand ls left × (PinsSomebody ls left → ⊥))
    ⊎ ((ms : List Standing) × PassOver demand ls ms × PinsSomebody ls ms × Passing k demand ms left))

-- an accepted call: at most people + 1 passes leave what its targets are made from
abbrev pub PassesByRule : Type 0
PassesByRule =
    (g : Given) (out : List ℤ) → (compute_targets g out).number ≡ 0 → Passing (suc g.people) (demand_in g) (standings_in g) (left_in g)
