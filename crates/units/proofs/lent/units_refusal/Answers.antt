-- `units::lent::units_refusal` meets its contract. Assumes nothing.
use mathlib.Core.Path.{refl}
use Rattle.paper.proofs.Rows.{link, ends, checked}
use Rattle.units.specs.Answers.{units_row}
use Rattle.units.proofs.lent.units_refusal.Goals as goal

pub returns : goal.returns
unfolding units_row
returns c =
    checked _ refl c.accepted.ensures
    (link c.check_slots-f.ensures (link c.check-f.ensures (link c.check_units.ensures ends)))
