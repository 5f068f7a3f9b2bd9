-- `units::days::target_run_refusal` meets its contract. Assumes nothing.
use mathlib.Core.Path.{refl}
use Rattle.paper.proofs.Rows.{link, ends, checked}
use Rattle.units.specs.Days.{target_run_row}
use Rattle.units.proofs.days.target_run_refusal.Goals as goal

pub returns : goal.returns
unfolding target_run_row
returns c =
    checked _ refl c.accepted.ensures
    (link c.check_slots-f.ensures (link c.check_room-f.ensures
    (link c.check_settings-f.ensures (link c.check_order.ensures ends))))
