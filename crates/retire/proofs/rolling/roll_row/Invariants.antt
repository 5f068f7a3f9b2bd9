-- `retire::rolling::roll_row` meets its contract. Assumes nothing.
use mathlib.Core.Path.{◌≡◌}
use Prim.Native.Nat.{◌*◌}
use Rattle.slotset.specs.Slots.{slot, put_slots}
use Rattle.retire.specs.Rolled.{rolled}
use Rattle.retire.proofs.rolling.roll_row.Given as goal

abbrev pub invariant-loop-k : goal.invariant-loop-k
invariant-loop-k l =
    l.words ≡ put_slots (rolled l.gone l.kept (slot l.initial.words (16 * l.person)) (slot l.fresh (16 * l.person)))
    (16 * l.person) 0 l.k l.initial.words
