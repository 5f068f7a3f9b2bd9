-- The level that missing minutes reach: the unpinned below it are lifted to it, and what is left over lifts the first of them by one more.
-- Assumes nothing.
use Rattle.std.specs.Prelude.{◌≡◌, ℕ, zero, suc, ◌+◌, ◌-◌, ◌<◌, ◌≤◌, Bool, cond, ◌&&◌, List, [], ◌∷◌, nat_le}
use Rattle.targets.specs.declared.Standing.{Standing}
use Rattle.targets.specs.SecondEdition.{unpinned, retargeted}

-- unpinned, and not above the level
unfoldable pub reached : ℕ → Standing → Bool
reached level l = unpinned l && nat_le l.target level

-- ---- what a level costs

-- the minutes that lift a person to it, and everybody
unfoldable pub missing_to : ℕ → Standing → ℕ
missing_to level l = cond l.pinned 0 (level - l.target)

abbrev pub lift_cost : ℕ → List Standing → ℕ
lift_cost level [] = 0
lift_cost level (l ∷ ls) = missing_to level l + lift_cost level ls

-- ---- everybody at it

-- the level, or one above it while minutes are left over
abbrev pub on_level : ℕ → ℕ → ℕ
on_level level zero = level
on_level level (suc left) = suc level

unfoldable pub lifted_standing : ℕ → ℕ → Standing → Standing
lifted_standing level left l = cond (reached level l) (retargeted (on_level level left) l) l

-- how many are left over after a person
abbrev pub one_fewer : ℕ → ℕ
one_fewer zero = zero
one_fewer (suc left) = left

unfoldable pub left_after : ℕ → ℕ → Standing → ℕ
left_after level left l = cond (reached level l) (one_fewer left) left

abbrev pub lifted : ℕ → ℕ → List Standing → List Standing
lifted level left [] = []
lifted level left (l ∷ ls) = lifted_standing level left l ∷ lifted level (left_after level left l) ls

-- so many minutes reach this level and no higher one, and lift these standings to those
pub record Lifts (minutes : ℕ) (ls out : List Standing) : Type 0 where
  pub level : ℕ
  pub paid : lift_cost level ls ≤ minutes
  pub no-higher : minutes < lift_cost (suc level) ls
  pub is : out ≡ lifted level (minutes - lift_cost level ls) ls

-- after it: who stood at the level or below stands on it or one above it, who stood above it stays
pub record Levelled (level before after : ℕ) : Type 0 where
  pub lifts : before ≤ level → (level ≤ after) × (after ≤ suc level)
  pub stays : level < before → after ≡ before
