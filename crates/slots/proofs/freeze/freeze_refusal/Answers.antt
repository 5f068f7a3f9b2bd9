-- `slots::freeze::freeze_refusal` meets its contract. Assumes nothing.
use mathlib.Core.Path.{refl}
use Rattle.paper.proofs.Rows.{link, ends, checked}
use Rattle.slots.specs.Freeze.{freeze_row}
use Rattle.slots.proofs.freeze.freeze_refusal.Goals as goal

pub returns : goal.returns
unfolding freeze_row
returns c =
    checked _ refl c.accepted.ensures
    (link c.check_slots-f.ensures (link c.check_room-f.ensures
    (link c.check_words-f.ensures (link c.check_order.ensures ends))))
