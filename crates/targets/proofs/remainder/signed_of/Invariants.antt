-- `targets::remainder::signed_of` meets its contract. Assumes nothing.
use Rattle.std.proofs.Common.{◌≡◌, ◌≤◌, ◌++◌, map, length, take, drop}
use Rattle.targets.specs.Remainder.{target_of}
use Rattle.targets.proofs.remainder.signed_of.Given as goal

abbrev pub invariant-loop-i : goal.invariant-loop-i
invariant-loop-i l = (l.i ≤ 32) × (length l.out ≡ 32) × (take l.i l.out ++ map target_of (drop l.i l.l-items) ≡ map target_of l.l-items)
