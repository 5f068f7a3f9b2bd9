-- `slots::lent::check_order` meets its contract. Assumes nothing.
use Rattle.paper.proofs.Rows.{renamed, skipped}
use Rattle.slots.proofs.lent.check_order.Goals as goal

pub returns-then-before-eq0 : goal.returns-then-before-eq0
returns-then-before-eq0 c = renamed _ _ c.check.ensures c.slots_ok.ensures

pub returns : goal.returns
returns c = skipped _ _ c.if-before-eq0.false
