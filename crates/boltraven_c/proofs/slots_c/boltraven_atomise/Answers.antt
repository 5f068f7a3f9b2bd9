-- `boltraven_c::slots_c::boltraven_atomise` meets its contract. Assumes nothing.
use mathlib.Core.Path.{ap, ◌∙◌}
use Rattle.boltraven_c.specs.Numbers.{plain_number}
use Rattle.boltraven_c.proofs.slots_c.boltraven_atomise.Goals as goal

pub returns : goal.returns
returns c =
    let answer = c.atomise.ensures in
    record { value = c.plain_number.ensures ∙ ap plain_number answer.said; froms_after = answer.starts; tos_after = answer.ends }
