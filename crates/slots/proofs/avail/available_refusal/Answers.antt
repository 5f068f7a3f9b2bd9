-- `slots::avail::available_refusal` meets its contract. Assumes nothing.
use mathlib.Core.Path.{refl}
use Rattle.paper.proofs.Rows.{link, ends, checked}
use Rattle.slots.specs.Availability.{available_row}
use Rattle.slots.proofs.avail.available_refusal.Goals as goal

pub returns : goal.returns
unfolding available_row
returns c =
    checked _ refl c.accepted.ensures
    (link c.check_people-f.ensures (link c.check_slots-f.ensures (link c.check_words-f.ensures
    (link c.check-f.ensures (link c.check.ensures ends)))))
