-- `slotset::scan::count_words` meets its contract. The invariant: n is the number of members below word j. Assumes nothing.
use mathlib.Core.Path.{◌≡◌}
use Prim.Native.Nat.{◌*◌, ◌≤◌}
use Rattle.slotset.specs.Slots.{slot, size}
use Rattle.slotset.proofs.scan.count_words.Given as goal

abbrev pub invariant-loop-j : goal.invariant-loop-j
invariant-loop-j l = (l.j ≤ l.whole) × (l.n ≡ size (slot l.words l.base) (l.j * 64)) × (l.n ≤ l.j * 64)
