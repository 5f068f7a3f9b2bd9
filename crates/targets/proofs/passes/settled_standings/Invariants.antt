-- `targets::passes::settled_standings` meets its contract. Assumes nothing.
use Rattle.std.proofs.Common.{◌≡◌, ◌≤◌, ◌++◌, map, length, take, drop}
use Rattle.targets.specs.Passes.{settle}
use Rattle.targets.proofs.passes.settled_standings.Given as goal

abbrev pub invariant-loop-i : goal.invariant-loop-i
invariant-loop-i l =
    (l.i ≤ 32) × (length l.out ≡ 32)
    × (take l.i l.out ++ map (settle l.n l.sum) (drop l.i l.l-items) ≡ map (settle l.n l.sum) l.l-items)
