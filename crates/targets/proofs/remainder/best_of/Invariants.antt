-- `targets::remainder::best_of` meets its contract. Assumes nothing.
use Rattle.std.proofs.Common.{◌≡◌, ◌<◌, ◌≤◌, drop}
use mathlib.Core.List.{foldl}
use Rattle.targets.specs.Remainder.{better}
use Rattle.targets.proofs.remainder.best_of.Given as goal

abbrev pub invariant-loop-l : goal.invariant-loop-l
invariant-loop-l l =
    (l.l-index ≤ 32) × (l.b.next ≡ l.l-index) × (l.b.at ≤ l.l-index) × (l.b.at < 32)
    × (foldl better l.b (drop l.l-index l.l-items) ≡ foldl better l.initial.b l.l-items)
