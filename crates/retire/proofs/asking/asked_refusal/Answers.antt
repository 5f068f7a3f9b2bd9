-- `retire::asking::asked_refusal` meets its contract. Assumes nothing.
use mathlib.Core.Path.{refl}
use Rattle.paper.proofs.Rows.{link, ends, checked, renamed}
use Rattle.slots.specs.Ranges.{range_count_ok}
use Rattle.retire.specs.Outcome.{asked_row}
use Rattle.retire.proofs.asking.asked_refusal.Goals as goal

pub returns : goal.returns
unfolding asked_row range_count_ok
returns c =
    checked _ refl c.accepted.ensures
    (link c.check_people-f.ensures
    (link c.check_slots-f.ensures
    (link c.check-f.ensures
    (link c.check-f-2.ensures
    (link c.check_room-f.ensures
    (link c.check_words-f.ensures
    (link c.check-f-3.ensures
    (link c.check-f-4.ensures (link c.check-f-5.ensures
    (link c.check-f-6.ensures (link c.check_words-f-2.ensures (link c.check-f-7.ensures
    (link c.check-f-8.ensures (link c.check-f-9.ensures (link c.check-f-10.ensures
    (link c.check_room-f-2.ensures (link (renamed _ 2 c.check.ensures c.range_room_ok-ranged.ensures) ends)))))))))))))))))
