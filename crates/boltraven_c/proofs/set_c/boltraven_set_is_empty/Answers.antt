-- `boltraven_c::set_c::boltraven_set_is_empty` meets its contract. Assumes nothing.
use mathlib.Core.Path.{ap, ◌∙◌}
use Rattle.boltraven_c.specs.Numbers.{yes_no_number}
use Rattle.boltraven_c.proofs.set_c.boltraven_set_is_empty.Goals as goal

pub returns : goal.returns
returns c = c.yes_no_number.ensures ∙ ap yes_no_number c.is_empty.ensures
