-- `slots::merge::merged_refusal` meets its contract. Assumes nothing.
use mathlib.Core.Path.{refl}
use Rattle.paper.proofs.Rows.{link, ends, checked}
use Rattle.slots.specs.Merged.{merged_row}
use Rattle.slots.proofs.merge.merged_refusal.Goals as goal

pub returns : goal.returns
unfolding merged_row
returns c =
    checked _ refl c.accepted.ensures
    (link c.check_people-f.ensures (link c.check_range_count-f.ensures
    (link c.check_range_room-f.ensures (link c.check_range_room-f-2.ensures
    (link c.check_ranges.ensures ends)))))
