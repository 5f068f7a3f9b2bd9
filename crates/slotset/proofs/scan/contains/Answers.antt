-- `slotset::scan::contains` meets its contract. Assumes nothing.
use borrow.Author.Tests.{lt-ltb, le-ltb}
use Rattle.slotset.specs.Slots.{slot, has}
use Rattle.slotset.proofs.scan.contains.Goals as goal

pub returns-then-i-len : goal.returns-then-i-len
unfolding has slot
returns-then-i-len c = simp (lt-ltb _ _ c.if-i-len.true) c.bit.ensures

pub returns-else-i-len : goal.returns-else-i-len
unfolding has
returns-else-i-len c = simp (le-ltb _ _ c.if-i-len.false)
