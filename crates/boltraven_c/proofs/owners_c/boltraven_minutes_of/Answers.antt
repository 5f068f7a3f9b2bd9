-- `boltraven_c::owners_c::boltraven_minutes_of` meets its contract. Assumes nothing.
use mathlib.Core.Path.{ap, ◌∙◌}
use Rattle.paper.specs.Rows.{answer_refusal}
use Rattle.boltraven_c.specs.Numbers.{minutes_written}
use Rattle.boltraven_c.proofs.owners_c.boltraven_minutes_of.Goals as goal

pub returns : goal.returns
returns c =
    let e = c.minutes_of-worked.ensures in
    record { value = c.put_minutes.ensures.value ∙ ap answer_refusal e; out_after = c.put_minutes.ensures.out_after ∙ ap (minutes_written _) e }
