-- `boltraven_c::slots_c::boltraven_slot_minutes` meets its contract. Assumes nothing.
use mathlib.Core.Path.{ap, ◌∙◌}
use Rattle.paper.specs.Rows.{answer_refusal}
use Rattle.boltraven_c.specs.Numbers.{minutes_written}
use Rattle.boltraven_c.proofs.slots_c.boltraven_slot_minutes.Goals as goal

pub returns : goal.returns
returns c =
    let e = c.slot_minutes-minutes.ensures in
    record { value = c.put_minutes.ensures.value ∙ ap answer_refusal e; out_after = c.put_minutes.ensures.out_after ∙ ap (minutes_written _) e }
