-- `mend::mending::found_refusal` meets its contract. Assumes nothing.
use mathlib.Core.Path.{refl}
use Rattle.paper.proofs.Rows.{link, ends, checked}
use Rattle.mend.specs.Answers.{found_row}
use Rattle.mend.proofs.mending.found_refusal.Goals as goal

pub returns : goal.returns
unfolding found_row
returns c =
    checked _ refl c.accepted.ensures
    (link c.check_people-f.ensures
    (link c.check_slots-f.ensures
    (link c.check_room-f.ensures (link c.check_words-f.ensures
    (link c.check-f.ensures (link c.check-f-2.ensures (link c.check-f-3.ensures
    (link c.check_words-f-2.ensures (link c.check-f-4.ensures (link c.check-f-5.ensures
    (link c.check_order-f.ensures (link c.check_units.ensures ends))))))))))))
