-- `units::lent::unit_count` meets its contract. Assumes nothing.
use mathlib.Core.Path.{refl}
use Rattle.units.specs.Answers.{unit_count_is}
use Rattle.paper.proofs.Rows.{said}
use Rattle.slotset.proofs.Refusals.{answer-is, answer-refused}
use Rattle.units.proofs.lent.unit_count.Goals as goal

pub returns-then-n-eq0 : goal.returns-then-n-eq0
unfolding unit_count_is
returns-then-n-eq0 c = answer-is _ _ (said _ c.units_refusal-n.ensures) c.if-n-eq0.true _ _ refl

pub returns-else-n-eq0 : goal.returns-else-n-eq0
unfolding unit_count_is
returns-else-n-eq0 c = answer-refused _ _ (said _ c.units_refusal-n.ensures) c.if-n-eq0.false _
