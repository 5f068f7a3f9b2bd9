-- `boltraven_c::units_c::boltraven_covered_days` meets its contract. Assumes nothing.
use mathlib.Core.Path.{ap, ◌∙◌}
use Rattle.paper.specs.Rows.{answer_refusal}
use Rattle.boltraven_c.specs.Numbers.{number_is}
use Rattle.boltraven_c.proofs.units_c.boltraven_covered_days.Goals as goal

pub returns : goal.returns
returns c =
    let e = c.covered_days-days.ensures in
    record { value = c.put_number.ensures.value ∙ ap answer_refusal e; out_after = c.put_number.ensures.out_after ∙ ap (number_is _) e }
