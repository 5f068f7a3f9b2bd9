-- `boltraven_c::owners_c::boltraven_recount` meets its contract. Assumes nothing.
use mathlib.Core.Path.{ap, ◌∙◌}
use Rattle.boltraven_c.specs.Numbers.{refusal_number}
use Rattle.boltraven_c.proofs.owners_c.boltraven_recount.Goals as goal

pub returns : goal.returns
returns c = c.refusal_number.ensures ∙ ap refusal_number c.recount.ensures
