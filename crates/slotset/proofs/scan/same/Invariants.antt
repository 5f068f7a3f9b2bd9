-- `slotset::scan::same` meets its contract. The invariant: the sets are the same below word j. Assumes nothing.
use mathlib.Core.Path.{◌≡◌}
use mathlib.Core.Bool.{true}
use Prim.Native.Nat.{◌*◌, min}
use Rattle.slotset.specs.Slots.{slot, same_slots}
use Rattle.slotset.proofs.scan.same.Given as goal

abbrev pub invariant-loop-j : goal.invariant-loop-j
invariant-loop-j l = same_slots (slot l.a l.base) (slot l.b l.base) (min (l.j * 64) l.len) ≡ true
