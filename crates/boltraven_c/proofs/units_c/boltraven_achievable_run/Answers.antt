-- `boltraven_c::units_c::boltraven_achievable_run` meets its contract. Assumes nothing.
use mathlib.Core.Path.{ap, ◌∙◌}
use Rattle.paper.specs.Rows.{answer_refusal}
use Rattle.boltraven_c.specs.Numbers.{minutes_written}
use Rattle.boltraven_c.proofs.units_c.boltraven_achievable_run.Goals as goal

pub returns : goal.returns
returns c =
    let e = c.achievable_run-minutes.ensures in
    record { value = c.put_minutes.ensures.value ∙ ap answer_refusal e; out_after = c.put_minutes.ensures.out_after ∙ ap (minutes_written _) e }
