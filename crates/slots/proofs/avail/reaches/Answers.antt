-- `slots::avail::reaches` meets its contract. Assumes nothing.
use Rattle.slots.proofs.AvailLaws.{reaches_some, reaches-none}
use Rattle.slots.proofs.avail.reaches.Goals as goal

pub returns-then-r-gt0 : goal.returns-then-r-gt0
returns-then-r-gt0 c = reaches_some _ _ _ _ c.if-r-gt0.true c.closes_at.ensures

pub returns-else-r-gt0 : goal.returns-else-r-gt0
returns-else-r-gt0 c = reaches-none _ _ _ c.if-r-gt0.false
