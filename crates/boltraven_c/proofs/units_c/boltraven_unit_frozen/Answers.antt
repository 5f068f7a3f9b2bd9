-- `boltraven_c::units_c::boltraven_unit_frozen` meets its contract. Assumes nothing.
use mathlib.Core.Path.{ap, ◌∙◌}
use Rattle.boltraven_c.specs.Numbers.{yes_no_number}
use Rattle.boltraven_c.proofs.units_c.boltraven_unit_frozen.Goals as goal

pub returns : goal.returns
returns c = c.yes_no_number.ensures ∙ ap yes_no_number c.unit_frozen.ensures
