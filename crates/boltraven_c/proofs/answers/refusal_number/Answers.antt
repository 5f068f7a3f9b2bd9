-- `boltraven_c::answers::refusal_number` meets its contract. Assumes nothing.
use mathlib.Core.Path.{refl}
use Rattle.boltraven_c.specs.Numbers.{refusal_number}
use Rattle.boltraven_c.proofs.answers.refusal_number.Goals as goal

pub returns : goal.returns
unfolding refusal_number
returns c = refl
