-- `boltraven_c::answers::yes_no_number` meets its contract. Assumes nothing.
use mathlib.Core.Path.{sym, ap, ◌∙◌}
use Rattle.boltraven_c.specs.Numbers.{yes_no_number}
use Rattle.boltraven_c.proofs.answers.yes_no_number.Goals as goal

pub returns-in-Err : goal.returns-in-Err
returns-in-Err c = c.refused.ensures ∙ sym (ap yes_no_number c.in-Err.is)
