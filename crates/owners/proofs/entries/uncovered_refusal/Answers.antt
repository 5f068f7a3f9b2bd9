-- `owners::entries::uncovered_refusal` meets its contract. Assumes nothing.
use Rattle.std.proofs.Common.{refl}
use Rattle.paper.proofs.Rows.{link, ends, checked}
use Rattle.owners.specs.Entries.{uncovered_row}
use Rattle.owners.proofs.entries.uncovered_refusal.Goals as goal

pub returns : goal.returns
unfolding uncovered_row
returns c =
    checked _ refl c.accepted.ensures
    (link c.check_people-f.ensures (link c.check_slots-f.ensures (link c.check_room-f.ensures
    (link c.check-f.ensures (link c.check_order-f.ensures (link c.check_known.ensures ends))))))
