-- `boltraven_c::slots_c::boltraven_is_available` meets its contract. Assumes nothing.
use mathlib.Core.Path.{ap, ◌∙◌}
use Rattle.boltraven_c.specs.Numbers.{yes_no_number}
use Rattle.boltraven_c.proofs.slots_c.boltraven_is_available.Goals as goal

pub returns : goal.returns
returns c = c.yes_no_number.ensures ∙ ap yes_no_number c.is_available.ensures
