-- `units::starts::starts_refusal` meets its contract. Assumes nothing.
use mathlib.Core.Path.{refl}
use Rattle.paper.proofs.Rows.{link, ends, checked}
use Rattle.units.specs.Starts.{starts_row}
use Rattle.units.proofs.starts.starts_refusal.Goals as goal

pub returns : goal.returns
unfolding starts_row
returns c =
    checked _ refl c.accepted.ensures
    (link c.check_slots-f.ensures (link c.check_room-f.ensures (link c.check-f.ensures
    (link c.check_settings-f.ensures (link c.check_order.ensures ends)))))
