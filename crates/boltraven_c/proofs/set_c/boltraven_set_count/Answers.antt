-- `boltraven_c::set_c::boltraven_set_count` meets its contract. Assumes nothing.
use mathlib.Core.Path.{ap, ◌∙◌}
use Rattle.boltraven_c.specs.Numbers.{plain_number}
use Rattle.boltraven_c.proofs.set_c.boltraven_set_count.Goals as goal

pub returns : goal.returns
returns c = c.plain_number.ensures ∙ ap plain_number c.count.ensures
