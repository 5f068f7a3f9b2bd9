-- `boltraven_c::store_c::boltraven_save_settings` meets its contract. Assumes nothing.
use mathlib.Core.Path.{sym, ap, ◌∙◌}
use Rattle.paper.specs.Rows.{answer_refusal}
use Rattle.boltraven_c.specs.Store.{saved_number, saved_used}
use Rattle.boltraven_c.proofs.store_c.boltraven_save_settings.Goals as goal

pub returns-in-Ok : goal.returns-in-Ok
returns-in-Ok c =
    let s = c.save.ensures in
    let e = sym s.said ∙ c.in-Ok.is in
    record { value = sym (ap answer_refusal e); area_after = s.left; number_after = sym (ap (saved_number _) e); new_used_after = sym (ap (saved_used _) e) }

pub returns-in-Err : goal.returns-in-Err
returns-in-Err c =
    let s = c.save.ensures in
    let e = sym s.said ∙ c.in-Err.is in
    record { value = sym (ap answer_refusal e); area_after = s.left; number_after = sym (ap (saved_number _) e); new_used_after = sym (ap (saved_used _) e) }
