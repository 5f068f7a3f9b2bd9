-- `slots::split::opens_from` meets its contract. Assumes nothing.
use Rattle.slots.proofs.EdgeLaws.{opens-some, opens-past}
use Rattle.slots.proofs.split.opens_from.Goals as goal

pub returns-then-r-n : goal.returns-then-r-n
returns-then-r-n c = opens-some _ _ _ _ c.if-r-n.true c.opens_at.ensures

pub returns : goal.returns
returns c = opens-past _ _ _ c.if-r-n.false
