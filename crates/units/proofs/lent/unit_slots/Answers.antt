-- `units::lent::unit_slots` meets its contract. Assumes nothing.
use mathlib.Core.Path.{refl}
use Rattle.paper.proofs.Rows.{link, ends, checked-more, said}
use Rattle.units.specs.Answers.{units_row, unit_slots_row, unit_slots_is}
use Rattle.slotset.proofs.Refusals.{answer-is, answer-refused}
use Rattle.units.proofs.Answers.{span-is}
use Rattle.units.proofs.lent.unit_slots.Goals as goal

pub returns-then-n-eq0 : goal.returns-then-n-eq0
unfolding unit_slots_is unit_slots_row units_row
returns-then-n-eq0 c =
    let n = said _ (checked-more _ _ refl c.units_refusal.ensures (link c.check-n.ensures ends)) in
    answer-is _ _ n c.if-n-eq0.true _ _ (span-is _ _ _ _ c.start_of.ensures c.unit_end.ensures)

pub returns-else-n-eq0 : goal.returns-else-n-eq0
unfolding unit_slots_is unit_slots_row units_row
returns-else-n-eq0 c =
    let n = said _ (checked-more _ _ refl c.units_refusal.ensures (link c.check-n.ensures ends)) in
    answer-refused _ _ n c.if-n-eq0.false _
