-- `slots::split::base_refusal` meets its contract. Assumes nothing.
use mathlib.Core.Path.{refl}
use Rattle.paper.proofs.Rows.{link, ends, checked}
use Rattle.slots.specs.Atomic.{base_row}
use Rattle.slots.proofs.split.base_refusal.Goals as goal

pub returns : goal.returns
unfolding base_row
returns c =
    checked _ refl c.accepted.ensures
    (link c.check_people-f.ensures (link c.check_slots-f.ensures
    (link c.check_range_count-f.ensures (link c.check_room-f.ensures
    (link c.check_range_room-f.ensures (link c.check_room-f-2.ensures
    (link c.check_order-f.ensures (link c.check_ranges.ensures ends))))))))
