-- `boltraven_c::store_c::boltraven_count_settings` meets its contract. Assumes nothing.
use mathlib.Core.Path.{ap, ◌∙◌}
use Rattle.boltraven_c.specs.Numbers.{plain_number}
use Rattle.boltraven_c.proofs.store_c.boltraven_count_settings.Goals as goal

pub returns : goal.returns
returns c = c.plain_number.ensures ∙ ap plain_number c.count.ensures
