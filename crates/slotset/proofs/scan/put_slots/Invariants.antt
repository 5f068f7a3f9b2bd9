-- `slotset::scan::put_slots` meets its contract. The invariant: the slots from `from` up to `at` are written. Assumes nothing.
use mathlib.Core.Path.{◌≡◌}
use Prim.Native.Nat.{◌-◌, ◌≤◌, ◌<◌}
use lib.ListN.{length}
use Rattle.slotset.specs.Slots.{value_of, put_slots}
use Rattle.slotset.proofs.scan.put_slots.Given as goal

abbrev pub invariant-loop-at : goal.invariant-loop-at
invariant-loop-at l =
    (l.words ≡ put_slots (λ _. value_of l.want) l.base l.from (l.at - l.from) l.initial.words)
    × (l.from ≤ l.at) × (l.from < l.to → l.at ≤ l.to) × (l.to ≤ l.from → l.at ≡ l.from) × (length l.words ≡ length l.initial.words)

abbrev pub decreases-loop-at : goal.decreases-loop-at
decreases-loop-at l = l.to - l.at
