-- `targets::checks::checks_refusal` meets its contract. Assumes nothing.
use Rattle.std.proofs.Common.{refl}
use Rattle.paper.proofs.Rows.{link, ends, checked}
use Rattle.targets.specs.Outcome.{room_row}
use Rattle.targets.specs.Inside.{checks_row}
use Rattle.targets.proofs.checks.checks_refusal.Goals as goal

pub returns : goal.returns
unfolding checks_row room_row
returns c =
    checked _ refl c.accepted.ensures
    (link c.check_people-f.ensures
    (link c.check_slots-f.ensures (link c.check_room-f.ensures
    (link c.check_words-f.ensures (link c.check-f.ensures (link c.check-f-2.ensures
    (link c.check-f-3.ensures (link c.check_figures-f.ensures (link c.check-f-4.ensures
    (link c.check-f-5.ensures (link c.check_order.ensures ends)))))))))))
