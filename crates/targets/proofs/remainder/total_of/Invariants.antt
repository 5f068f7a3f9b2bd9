-- `targets::remainder::total_of` meets its contract. Assumes nothing.
use Rattle.std.proofs.Common.{◌≡◌, ◌*◌, ◌≤◌, drop}
use mathlib.Core.List.{foldl}
use Rattle.targets.specs.Remainder.{with_target, total_of}
use Rattle.targets.proofs.remainder.total_of.Given as goal

abbrev pub invariant-loop-l : goal.invariant-loop-l
invariant-loop-l l =
    (l.l-index ≤ 32) × (l.sum ≤ 1099511627776 * l.l-index)
    × (foldl with_target l.sum (drop l.l-index l.l-items) ≡ total_of l.l-items)
