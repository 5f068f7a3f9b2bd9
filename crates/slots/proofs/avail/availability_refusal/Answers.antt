-- `slots::avail::availability_refusal` meets its contract. Assumes nothing.
use mathlib.Core.Path.{refl}
use Rattle.paper.proofs.Rows.{link, ends, checked}
use Rattle.slots.specs.Availability.{availability_row}
use Rattle.slots.proofs.avail.availability_refusal.Goals as goal

pub returns : goal.returns
unfolding availability_row
returns c =
    checked _ refl c.accepted.ensures
    (link c.check_people-f.ensures (link c.check_slots-f.ensures
    (link c.check_range_count-f.ensures (link c.check_room-f.ensures
    (link c.check_range_room-f.ensures (link c.check_words-f.ensures
    (link c.check_ranges-f.ensures (link c.check_order.ensures ends))))))))
