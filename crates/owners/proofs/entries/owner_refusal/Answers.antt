-- `owners::entries::owner_refusal` meets its contract. Assumes nothing.
use Rattle.std.proofs.Common.{refl}
use Rattle.paper.proofs.Rows.{link, ends, checked}
use Rattle.owners.specs.Entries.{owner_row}
use Rattle.owners.proofs.entries.owner_refusal.Goals as goal

pub returns : goal.returns
unfolding owner_row
returns c =
    checked _ refl c.accepted.ensures
    (link c.check_people-f.ensures (link c.check_slots-f.ensures (link c.check-f.ensures
    (link c.check-f-2.ensures (link c.check_owner.ensures ends)))))
