-- `targets::levels::smallest_of` meets its contract. Assumes nothing.
use Rattle.std.proofs.Common.{◌≡◌, ◌≤◌, drop}
use mathlib.Core.List.{foldl}
use Rattle.targets.specs.Inside.{lower, smallest_of}
use Rattle.targets.proofs.levels.smallest_of.Given as goal

abbrev pub invariant-loop-l : goal.invariant-loop-l
invariant-loop-l l = (l.l-index ≤ 32) × (l.low ≤ 1099511627776) × (foldl lower l.low (drop l.l-index l.l-items) ≡ smallest_of l.l-items)
