-- `slotset::scan::copy_slots` meets its contract. The invariant: the slots below `at` are copied. Assumes nothing.
use mathlib.Core.Path.{◌≡◌}
use Prim.Native.Nat.{◌-◌, ◌≤◌}
use lib.ListN.{length}
use Rattle.slotset.specs.Slots.{slot, put_slots}
use Rattle.slotset.proofs.scan.copy_slots.Given as goal

abbrev pub invariant-loop-at : goal.invariant-loop-at
invariant-loop-at l =
    (l.words ≡ put_slots (slot l.src 0) l.base 0 (l.at - 0) l.initial.words) × (l.at ≤ l.len) × (length l.words ≡ length l.initial.words)

abbrev pub decreases-loop-at : goal.decreases-loop-at
decreases-loop-at l = l.len - l.at
