-- `boltraven_c::answers::found_number` meets its contract. Assumes nothing.
use mathlib.Core.Path.{sym, ap, ◌∙◌}
use Rattle.boltraven_c.specs.Numbers.{found_number}
use Rattle.boltraven_c.proofs.answers.found_number.Goals as goal

pub returns-in-Err : goal.returns-in-Err
returns-in-Err c = c.refused.ensures ∙ sym (ap found_number c.in-Err.is)
