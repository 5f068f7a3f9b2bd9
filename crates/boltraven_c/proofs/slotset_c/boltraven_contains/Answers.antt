-- `boltraven_c::slotset_c::boltraven_contains` meets its contract. Assumes nothing.
use mathlib.Core.Path.{ap, ◌∙◌}
use Rattle.boltraven_c.specs.Numbers.{yes_no_number}
use Rattle.boltraven_c.proofs.slotset_c.boltraven_contains.Goals as goal

pub returns : goal.returns
returns c = c.yes_no_number.ensures ∙ ap yes_no_number c.contains.ensures
