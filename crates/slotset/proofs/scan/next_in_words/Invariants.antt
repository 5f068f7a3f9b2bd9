-- `slotset::scan::next_in_words` meets its contract. The invariant: the answer from word `first` on is the answer from word j on.
-- Assumes nothing.
use mathlib.Core.Path.{◌≡◌}
use Prim.Native.Nat.{◌*◌}
use Rattle.slotset.specs.Slots.{slot, value_of}
use Rattle.slotset.specs.Search.{next_with}
use Rattle.slotset.proofs.scan.next_in_words.Given as goal

abbrev pub invariant-loop-j : goal.invariant-loop-j
invariant-loop-j l =
    next_with (value_of l.want) (slot l.words l.base) l.len (l.first * 64) ≡ next_with (value_of l.want) (slot l.words l.base) l.len (l.j * 64)
