-- `units::runs::achievable_runs_refusal` meets its contract. Assumes nothing.
use mathlib.Core.Path.{refl}
use Rattle.paper.proofs.Rows.{link, ends, checked}
use Rattle.units.specs.Achievable.{achievable_runs_row}
use Rattle.units.proofs.runs.achievable_runs_refusal.Goals as goal

pub returns : goal.returns
unfolding achievable_runs_row
returns c =
    checked _ refl c.accepted.ensures
    (link c.check_people-f.ensures (link c.check_slots-f.ensures (link c.check_room-f.ensures
    (link c.check_words-f.ensures (link c.check-f.ensures
    (link c.check_settings-f.ensures (link c.check_order.ensures ends)))))))
