-- `boltraven_c::usable_c::put_verdict` meets its contract. Assumes nothing.
use mathlib.Core.Path.{sym, ap, ◌∙◌}
use Rattle.boltraven_c.specs.Usable.{verdict_number, verdict_slot}
use Rattle.boltraven_c.proofs.usable_c.put_verdict.Goals as goal

pub returns-in-Err : goal.returns-in-Err
returns-in-Err c =
    let e = c.in-Err.is in
    record { value = c.refused.ensures ∙ sym (ap verdict_number e); out_after = sym (ap (verdict_slot _) e) }
