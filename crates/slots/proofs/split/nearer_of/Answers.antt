-- `slots::split::nearer_of` meets its contract. Assumes nothing.
use borrow.Author.Tests.{lt-ltb, le-ltb}
use Rattle.slots.specs.Inside.{nearer}
use Rattle.slots.proofs.split.nearer_of.Goals as goal

pub returns-then-t-best : goal.returns-then-t-best
unfolding nearer
returns-then-t-best c = simp (lt-ltb _ _ c.if-after-t.true, lt-ltb _ _ c.if-t-best.true)

pub returns-else-t-best : goal.returns-else-t-best
unfolding nearer
returns-else-t-best c = simp (lt-ltb _ _ c.if-after-t.true, le-ltb _ _ c.if-t-best.false)

pub returns-else-after-t : goal.returns-else-after-t
unfolding nearer
returns-else-after-t c = simp (le-ltb _ _ c.if-after-t.false)
