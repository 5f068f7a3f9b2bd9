-- `units::runs::achievable_run_refusal` meets its contract. Assumes nothing.
use mathlib.Core.Path.{refl}
use Rattle.paper.proofs.Rows.{link, ends, checked}
use Rattle.units.specs.Achievable.{achievable_run_row}
use Rattle.units.proofs.runs.achievable_run_refusal.Goals as goal

pub returns : goal.returns
unfolding achievable_run_row
returns c =
    checked _ refl c.accepted.ensures
    (link c.check_people-f.ensures (link c.check_slots-f.ensures (link c.check_room-f.ensures
    (link c.check_words-f.ensures (link c.check_settings-f.ensures
    (link c.check_order-f.ensures (link c.check.ensures ends)))))))
