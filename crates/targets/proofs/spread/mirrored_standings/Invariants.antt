-- `targets::spread::mirrored_standings` meets its contract. Assumes nothing.
use Rattle.std.proofs.Common.{◌≡◌, ◌≤◌, ◌++◌, map, length, take, drop}
use Rattle.targets.specs.Inside.{mirrored}
use Rattle.targets.proofs.spread.mirrored_standings.Given as goal

abbrev pub invariant-loop-i : goal.invariant-loop-i
invariant-loop-i l = (l.i ≤ 32) × (length l.out ≡ 32) × (take l.i l.out ++ map mirrored (drop l.i l.l-items) ≡ map mirrored l.l-items)
