-- `boltraven_c::mend_c::boltraven_mend` meets its contract. Assumes nothing.
use mathlib.Core.Path.{ap, ◌∙◌}
use Rattle.boltraven_c.specs.Numbers.{plain_number}
use Rattle.boltraven_c.proofs.mend_c.boltraven_mend.Goals as goal

pub returns : goal.returns
returns c =
    let E = c.mend-number.ensures in
    record { number = c.plain_number.ensures ∙ ap plain_number E.said; left = E.left; list = E.list }
