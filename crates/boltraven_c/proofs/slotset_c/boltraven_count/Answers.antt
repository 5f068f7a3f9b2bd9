-- `boltraven_c::slotset_c::boltraven_count` meets its contract. Assumes nothing.
use mathlib.Core.Path.{ap, ◌∙◌}
use Rattle.boltraven_c.specs.Numbers.{plain_number}
use Rattle.boltraven_c.proofs.slotset_c.boltraven_count.Goals as goal

pub returns : goal.returns
returns c = c.plain_number.ensures ∙ ap plain_number c.count.ensures
