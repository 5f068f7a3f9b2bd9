-- `owners::entries::minutes_refusal` meets its contract. Assumes nothing.
use Rattle.std.proofs.Common.{refl}
use Rattle.paper.proofs.Rows.{link, ends, checked}
use Rattle.owners.specs.Entries.{minutes_row}
use Rattle.owners.proofs.entries.minutes_refusal.Goals as goal

pub returns : goal.returns
unfolding minutes_row
returns c =
    checked _ refl c.accepted.ensures
    (link c.check_people-f.ensures (link c.check-f.ensures (link c.check.ensures ends)))
