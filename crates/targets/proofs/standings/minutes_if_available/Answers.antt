-- `targets::standings::minutes_if_available` meets its contract. Assumes nothing.
use Rattle.std.proofs.Common.{Ok, ap, ◌∙◌}
use Rattle.targets.proofs.Minutes.{answered-yes, yes-no-refused, answered-refused}
use Rattle.targets.proofs.standings.minutes_if_available.Goals as goal

pub returns-in-Ok-true : goal.returns-in-Ok-true
returns-in-Ok-true c =
    let a = c.args in
    answered-yes a.people a.person a.slots a.starts.now a.ends.now a.avail.now a.k c.requires.0 c.requires.1
    c.contains.result c.contains.ensures (c.in-Ok-true.is ∙ ap Ok c.in-Ok-true.field-0-test) c.minutes_at.ensures

pub returns-in-Ok-false : goal.returns-in-Ok-false
returns-in-Ok-false c =
    let a = c.args in
    yes-no-refused a.people a.person a.slots a.starts.now a.ends.now a.avail.now a.k c.requires.0 c.requires.1
    c.contains.result c.contains.ensures (c.in-Ok-false.is ∙ ap Ok c.in-Ok-false.field-0-test)

pub returns-in-Err : goal.returns-in-Err
returns-in-Err c =
    let a = c.args in
    absurd
    (answered-refused a.people a.person a.slots a.starts.now a.ends.now a.avail.now a.k c.requires.0 c.requires.1
    c.contains.result c.contains.ensures c.in-Err.is)
