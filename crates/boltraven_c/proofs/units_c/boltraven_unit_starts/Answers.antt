-- `boltraven_c::units_c::boltraven_unit_starts` meets its contract. Assumes nothing.
use mathlib.Core.Path.{ap, ◌∙◌}
use Rattle.boltraven_c.specs.Numbers.{plain_number}
use Rattle.boltraven_c.proofs.units_c.boltraven_unit_starts.Goals as goal

pub returns : goal.returns
returns c =
    let answer = c.unit_starts.ensures in
    record { value = c.plain_number.ensures ∙ ap plain_number answer.said; unit_starts_after = answer.left }
