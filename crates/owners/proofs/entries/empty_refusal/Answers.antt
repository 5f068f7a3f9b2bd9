-- `owners::entries::empty_refusal` meets its contract. Assumes nothing.
use Rattle.std.proofs.Common.{refl}
use Rattle.paper.proofs.Rows.{link, ends, checked}
use Rattle.owners.specs.Entries.{empty_row}
use Rattle.owners.proofs.entries.empty_refusal.Goals as goal

pub returns : goal.returns
unfolding empty_row
returns c =
    checked _ refl c.accepted.ensures
    (link c.check_people-f.ensures (link c.check_slots-f.ensures (link c.check_room-f.ensures (link c.check-f.ensures
    (link c.check_words-g.ensures (link c.check-g.ensures (link c.check-g-2.ensures (link c.check_order.ensures ends))))))))
