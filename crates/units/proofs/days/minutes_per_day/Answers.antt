-- `units::days::minutes_per_day` meets its contract. Assumes nothing.
use mathlib.Core.Path.{sym, ◌∙◌}
use Rattle.units.specs.Days.{minutes_per_day_is}
use Rattle.units.proofs.Covered.{lent-say}
use Rattle.paper.proofs.Rows.{said}
use Rattle.slotset.proofs.Refusals.{answer-is, answer-refused}
use Rattle.units.proofs.days.minutes_per_day.Goals as goal

pub day_minutes-requires : goal.day_minutes-requires
day_minutes-requires c = lent-say _ _ _ (sym (said _ c.lent_refusal-n.ensures) ∙ c.if-n-eq0.true)

pub returns-then-n-eq0 : goal.returns-then-n-eq0
unfolding minutes_per_day_is
returns-then-n-eq0 c = answer-is _ _ (said _ c.lent_refusal-n.ensures) c.if-n-eq0.true _ _ c.day_minutes.ensures.0

pub returns-else-n-eq0 : goal.returns-else-n-eq0
unfolding minutes_per_day_is
returns-else-n-eq0 c = answer-refused _ _ (said _ c.lent_refusal-n.ensures) c.if-n-eq0.false _
