-- `targets::levels::lifted_standings` meets its contract. Assumes nothing.
use Rattle.std.proofs.Common.{◌≡◌, ◌≤◌, ◌++◌, length, take, drop}
use Rattle.targets.specs.Levels.{lifted}
use Rattle.targets.proofs.levels.lifted_standings.Given as goal

abbrev pub invariant-loop-i : goal.invariant-loop-i
invariant-loop-i l =
    (l.i ≤ 32) × (length l.out ≡ 32) × (take l.i l.out ++ lifted l.level l.rest (drop l.i l.l-items) ≡ lifted l.level l.left l.l-items)
