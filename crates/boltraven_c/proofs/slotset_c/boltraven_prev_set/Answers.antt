-- `boltraven_c::slotset_c::boltraven_prev_set` meets its contract. Assumes nothing.
use mathlib.Core.Path.{ap, ◌∙◌}
use Rattle.boltraven_c.specs.Numbers.{found_number}
use Rattle.boltraven_c.proofs.slotset_c.boltraven_prev_set.Goals as goal

pub returns : goal.returns
returns c = c.found_number.ensures ∙ ap found_number c.prev_set.ensures
