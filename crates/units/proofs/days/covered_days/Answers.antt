-- `units::days::covered_days` meets its contract. Assumes nothing.
use mathlib.Core.Path.{sym, ◌∙◌}
use Rattle.units.specs.Days.{covered_days_is}
use Rattle.units.proofs.Covered.{lent-say}
use Rattle.paper.proofs.Rows.{said}
use Rattle.slotset.proofs.Refusals.{answer-is, answer-refused}
use Rattle.units.proofs.days.covered_days.Goals as goal

pub count_dates-requires : goal.count_dates-requires
count_dates-requires c = (lent-say _ _ _ (sym (said _ c.lent_refusal-n.ensures) ∙ c.if-n-eq0.true)).1

pub returns-then-n-eq0 : goal.returns-then-n-eq0
unfolding covered_days_is
returns-then-n-eq0 c =
    let n = said _ c.lent_refusal-n.ensures in
    let z = c.if-n-eq0.true in
    answer-is _ _ n z _ _ c.count_dates.ensures

pub returns-else-n-eq0 : goal.returns-else-n-eq0
unfolding covered_days_is
returns-else-n-eq0 c = answer-refused _ _ (said _ c.lent_refusal-n.ensures) c.if-n-eq0.false _
