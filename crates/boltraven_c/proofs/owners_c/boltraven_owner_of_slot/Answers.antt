-- `boltraven_c::owners_c::boltraven_owner_of_slot` meets its contract. Assumes nothing.
use mathlib.Core.Path.{ap, ◌∙◌}
use Rattle.boltraven_c.specs.Numbers.{plain_number}
use Rattle.boltraven_c.proofs.owners_c.boltraven_owner_of_slot.Goals as goal

pub returns : goal.returns
returns c = c.plain_number.ensures ∙ ap plain_number c.owner_of_slot.ensures
