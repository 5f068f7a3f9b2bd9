-- `boltraven_c::units_c::boltraven_unit_slots` meets its contract. Assumes nothing.
use mathlib.Core.Path.{sym, ap, ◌∙◌}
use Rattle.paper.specs.Rows.{answer_refusal}
use Rattle.boltraven_c.specs.Units.{span_from, span_to}
use Rattle.boltraven_c.proofs.units_c.boltraven_unit_slots.Goals as goal

pub returns-in-Ok : goal.returns-in-Ok
returns-in-Ok c =
    let e = sym c.unit_slots.ensures ∙ c.in-Ok.is in
    record { value = sym (ap answer_refusal e); from_after = sym (ap (span_from _) e); to_after = sym (ap (span_to _) e) }

pub returns-in-Err : goal.returns-in-Err
returns-in-Err c =
    let e = sym c.unit_slots.ensures ∙ c.in-Err.is in
    record { value = sym (ap answer_refusal e); from_after = sym (ap (span_from _) e); to_after = sym (ap (span_to _) e) }
