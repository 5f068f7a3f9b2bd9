-- `slotset::word::every` meets its contract. Assumes nothing.
use mathlib.Core.Path.{ap, sym, ◌∙◌}
use Rattle.paper.proofs.Bits.{bit-ones, bit-none}
use Rattle.slotset.specs.Slots.{value_of}
use Rattle.slotset.proofs.word.every.Goals as goal

pub returns-then-want : goal.returns-then-want
returns-then-want c k h = bit-ones 64 k h ∙ sym (ap value_of c.if-want.true)

pub returns-else-want : goal.returns-else-want
returns-else-want c k h = bit-none k ∙ sym (ap value_of c.if-want.false)
