-- `targets::levels::lift_cost` meets its contract. Assumes nothing.
use Rattle.std.proofs.Common.{◌≡◌, ◌+◌, ◌*◌, ◌≤◌, drop}
use Rattle.targets.specs.Levels.{lift_cost}
use Rattle.targets.proofs.levels.lift_cost.Given as goal

abbrev pub invariant-loop-l : goal.invariant-loop-l
invariant-loop-l l =
    (l.l-index ≤ 32) × (l.sum ≤ 70368744177664 * l.l-index)
    × (l.sum + lift_cost l.level (drop l.l-index l.l-items) ≡ lift_cost l.level l.l-items)
