-- `boltraven_c::usable_c::boltraven_may_be_used` meets its contract. Assumes nothing.
use mathlib.Core.Path.{ap, ◌∙◌}
use Rattle.boltraven_c.specs.Usable.{verdict_number, verdict_slot}
use Rattle.boltraven_c.proofs.usable_c.boltraven_may_be_used.Goals as goal

pub returns : goal.returns
returns c =
    let e = c.may_be_used-verdict.ensures in
    record { value = c.put_verdict.ensures.value ∙ ap verdict_number e; slot_after = c.put_verdict.ensures.out_after ∙ ap (verdict_slot _) e }
