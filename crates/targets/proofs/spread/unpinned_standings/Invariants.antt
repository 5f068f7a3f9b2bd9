-- `targets::spread::unpinned_standings` meets its contract. Assumes nothing.
use Rattle.std.proofs.Common.{◌≡◌, ◌≤◌, ◌++◌, map, length, take, drop}
use Rattle.targets.specs.SecondEdition.{unpin}
use Rattle.targets.proofs.spread.unpinned_standings.Given as goal

abbrev pub invariant-loop-i : goal.invariant-loop-i
invariant-loop-i l = (l.i ≤ l.people) × (length l.out ≡ 32) × (l.out ≡ take l.i (map unpin l.standings) ++ drop l.i l.standings)
