-- `slotset::scan::last_in_words` meets its contract. The invariant: the answer below word `before` is the answer below word j.
-- Assumes nothing.
use mathlib.Core.Path.{◌≡◌}
use Prim.Native.Nat.{◌*◌}
use Rattle.slotset.specs.Slots.{slot, value_of}
use Rattle.slotset.specs.Search.{down}
use Rattle.slotset.proofs.scan.last_in_words.Given as goal

abbrev pub invariant-loop-j : goal.invariant-loop-j
invariant-loop-j l =
    down (value_of l.want) (slot l.words l.base) (l.before * 64) ≡ down (value_of l.want) (slot l.words l.base) (l.j * 64)
