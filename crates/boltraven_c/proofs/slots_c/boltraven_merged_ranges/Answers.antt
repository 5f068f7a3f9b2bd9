-- `boltraven_c::slots_c::boltraven_merged_ranges` meets its contract. Assumes nothing.
use mathlib.Core.Path.{ap, ◌∙◌}
use Rattle.boltraven_c.specs.Numbers.{plain_number}
use Rattle.boltraven_c.proofs.slots_c.boltraven_merged_ranges.Goals as goal

pub returns : goal.returns
returns c =
    let answer = c.merged_ranges.ensures in
    record { value = c.plain_number.ensures ∙ ap plain_number answer.said; whose_after = answer.persons; froms_after = answer.starts; tos_after = answer.ends }
