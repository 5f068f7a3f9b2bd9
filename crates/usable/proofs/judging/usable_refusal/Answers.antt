-- `usable::judging::usable_refusal` meets its contract. Assumes nothing.
use mathlib.Core.Path.{refl}
use Rattle.paper.proofs.Rows.{link, ends, checked, renamed}
use Rattle.usable.specs.Answers.{usable_row}
use Rattle.usable.proofs.judging.usable_refusal.Goals as goal

pub returns : goal.returns
unfolding usable_row
returns c =
    checked _ refl c.accepted.ensures
    (link c.check_people-f.ensures (link c.check_slots-f.ensures
    (link c.check_room-f.ensures (link c.check_words-f.ensures (link c.check-f.ensures
    (link c.check-f-2.ensures (link c.check-f-3.ensures (link c.check-f-4.ensures
    (link (renamed _ 7 c.check-f-5.ensures c.figures_ok.ensures)
    (link c.check_order-f.ensures (link c.check_units.ensures ends)))))))))))
