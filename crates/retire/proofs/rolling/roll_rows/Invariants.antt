-- `retire::rolling::roll_rows` meets its contract. Assumes nothing.
use mathlib.Core.Path.{◌≡◌}
use Prim.Native.Nat.{◌*◌}
use Rattle.slotset.specs.Slots.{slot}
use Rattle.slots.specs.Availability.{rows}
use Rattle.retire.specs.Rolled.{rolled}
use Rattle.retire.proofs.rolling.roll_rows.Given as goal

abbrev pub invariant-loop-person : goal.invariant-loop-person
invariant-loop-person l =
    l.words ≡ rows (λ p. rolled l.gone l.kept (slot l.initial.words (16 * p)) (slot l.fresh (16 * p))) l.count l.person l.initial.words
