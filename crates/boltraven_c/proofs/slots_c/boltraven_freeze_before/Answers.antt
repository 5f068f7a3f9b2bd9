-- `boltraven_c::slots_c::boltraven_freeze_before` meets its contract. Assumes nothing.
use mathlib.Core.Path.{ap, ◌∙◌}
use Rattle.boltraven_c.specs.Numbers.{plain_number}
use Rattle.boltraven_c.proofs.slots_c.boltraven_freeze_before.Goals as goal

pub returns : goal.returns
returns c =
    let answer = c.freeze_before.ensures in
    record { value = c.plain_number.ensures ∙ ap plain_number answer.0; frozen_after = answer.1 }
