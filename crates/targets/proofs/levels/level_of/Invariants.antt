-- `targets::levels::level_of` meets its contract. Assumes nothing.
use Rattle.std.proofs.Common.{◌-◌, ◌<◌, ◌≤◌}
use Rattle.targets.specs.Levels.{lift_cost}
use Rattle.targets.proofs.levels.level_of.Given as goal

abbrev pub invariant-loop-low : goal.invariant-loop-low
invariant-loop-low l =
    (l.low < l.high) × (l.high ≤ 36283883716609) × (lift_cost l.low l.standings ≤ l.minutes) × (l.minutes < lift_cost l.high l.standings)

abbrev pub decreases-loop-low : goal.decreases-loop-low
decreases-loop-low l = l.high - l.low
