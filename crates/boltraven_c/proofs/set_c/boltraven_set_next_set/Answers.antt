-- `boltraven_c::set_c::boltraven_set_next_set` meets its contract. Assumes nothing.
use mathlib.Core.Path.{ap, ◌∙◌}
use Rattle.boltraven_c.specs.Numbers.{found_number}
use Rattle.boltraven_c.proofs.set_c.boltraven_set_next_set.Goals as goal

pub returns : goal.returns
returns c = c.found_number.ensures ∙ ap found_number c.next_set.ensures
