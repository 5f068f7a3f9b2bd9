-- `slots::lent::lent_refusal` meets its contract. Assumes nothing.
use mathlib.Core.Path.{refl}
use Rattle.paper.proofs.Rows.{link, ends, checked}
use Rattle.slots.specs.Lent.{lent_row}
use Rattle.slots.proofs.lent.lent_refusal.Goals as goal

pub returns : goal.returns
unfolding lent_row
returns c =
    checked _ refl c.accepted.ensures
    (link c.check_slots-f.ensures (link c.check_room-f.ensures (link c.check_order.ensures ends)))
