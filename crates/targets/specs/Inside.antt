-- What contracts of private functions cite, and no public one: what the code's own values stand for, what the work asks. Assumes nothing.
use Rattle.std.specs.Prelude.{◌≡◌, ℕ, Option, None, Some, ◌-◌, ◌*◌, ◌<◌, ◌≤◌, true, cond, not, ◌&&◌, List, [], ◌∷◌, ◌++◌, map, length, take, drop, ℤ, ◌==◌, nat_le, nat_lt}
use mathlib.Core.List.{foldl}
use Rattle.paper.specs.Limits.{Test, test}
use Rattle.slots.specs.Lent.{slots_ok}
use Rattle.targets.specs.declared.Standing.{Standing}
use Rattle.targets.specs.declared.passes.Round.{Round}
use Rattle.targets.specs.declared.passes.Round.TheVariants.{Again, Done}
use Rattle.targets.specs.Figures.{all_figures_ok}
use Rattle.targets.specs.Passes.{some, Passed, again, done, refused}
use Rattle.targets.specs.Remainder.{target_of, adjusted}
use Rattle.targets.specs.SecondEdition.{unpinned, unpin, retargeted, handed_out}
use Rattle.targets.specs.Outcome.{Given, room_row}

-- ---- the code's values

-- a round, or none where the pass is refused
abbrev pub round_is : Round → Passed
round_is (Again ls) = again ls
round_is (Done ls) = done ls

abbrev pub passed_of : Option Round → Passed
passed_of None = refused
passed_of (Some r) = round_is r

-- the standings that the passes leave, or none where they are refused
abbrev pub left_of : Passed → Option (List Standing)
left_of (again ls) = Some ls
left_of (done ls) = Some ls
left_of refused = None

-- standings of which only the first are people's: who takes part in edition 2, and the targets by edition
abbrev pub taking_first : ℕ → List Standing → List Standing
taking_first people ls = cond (some unpinned ls) ls (take people (map unpin ls) ++ drop people ls)

abbrev pub shared_first : ℕ → ℕ → ℕ → List Standing → List ℤ
shared_first edition people demand ls =
    cond (edition == 1) (map target_of (handed_out demand (taking_first people ls))) (adjusted demand ls)

-- the targets of what the passes leave, or none where they are refused
abbrev pub targets_left : ℕ → ℕ → ℕ → Passed → Option (List ℤ)
targets_left edition people demand (again ls) = Some (shared_first edition people demand ls)
targets_left edition people demand (done ls) = Some (shared_first edition people demand ls)
targets_left edition people demand refused = None

-- what holds of each standing
abbrev pub Each : (Standing → Type 0) → List Standing → Type 0
Each P [] = Unit
Each P (l ∷ ls) = P l × Each P ls

-- every target is at most 2 ^ 40, so that no sum of them wraps
abbrev pub SmallTarget : Standing → Type 0
SmallTarget l = l.target ≤ 1099511627776

abbrev pub Small : List Standing → Type 0
Small = Each SmallTarget

-- who is pinned has target 0
abbrev pub PinnedZero : List Standing → Type 0
PinnedZero = Each (λ (l : Standing). l.pinned ≡ true → l.target ≡ 0)

-- ---- edition 2

-- the smallest unpinned target
abbrev pub lower : ℕ → Standing → ℕ
lower low l = cond (not l.pinned && nat_lt l.target low) l.target low

abbrev pub smallest_of : List Standing → ℕ
smallest_of = foldl lower 1099511627776

-- a target t seen from there: 2 ^ 40 less t. The largest shows as the smallest
abbrev pub highest : ℕ
highest = 1099511627776

abbrev pub mirrored : Standing → Standing
mirrored l = retargeted (highest - l.target) l

-- ---- the checks that come before the work

-- 1, 2, 6, 7, 9: 8 comes out of the work
unfoldable pub checks_row : Given → ℕ → List Test
checks_row g room =
    room_row g room
    ++ (test 6 (all_figures_ok g.people g.capacities g.priors) ∷ test 7 (nat_le g.fairness 1)
    ∷ test 7 (nat_le g.edition 1) ∷ test 9 (slots_ok g.slots g.starts g.ends) ∷ [])

-- what they leave known

pub record Sound (g : Given) : Type 0 where
  pub somebody : 0 < g.people
  pub few : g.people ≤ 32
  pub slots-few : g.slots ≤ 1024
  pub words : 16 * g.people ≤ length g.avail
  pub capacities-room : g.people ≤ length g.capacities
  pub priors-room : g.people ≤ length g.priors
  pub figures : all_figures_ok g.people g.capacities g.priors ≡ true
  pub flag : g.fairness ≤ 1
  pub edition-known : g.edition ≤ 1
  pub ordered : slots_ok g.slots g.starts g.ends ≡ true

-- a person's row can be asked
pub record RowSound (people person slots : ℕ) (avail : List ℕ) : Type 0 where
  pub somebody : 0 < people
  pub few : people ≤ 32
  pub known : person < people
  pub slots-few : slots ≤ 1024
  pub words : 16 * people ≤ length avail
