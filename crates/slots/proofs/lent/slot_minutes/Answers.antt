-- `slots::lent::slot_minutes` meets its contract. Assumes nothing.
use mathlib.Core.Path.{refl}
use Rattle.paper.proofs.Rows.{link, ends, checked-more, said}
use Rattle.slotset.proofs.Refusals.{answer-is, answer-refused}
use Rattle.slots.specs.Lent.{lent_row, slot_minutes_row, slot_minutes_is}
use Rattle.slots.proofs.lent.slot_minutes.Goals as goal

pub returns-then-n-eq0 : goal.returns-then-n-eq0
unfolding slot_minutes_is slot_minutes_row lent_row
returns-then-n-eq0 c =
    let n = said _ (checked-more _ _ refl c.lent_refusal.ensures (link c.check-n.ensures ends)) in
    answer-is _ _ n c.if-n-eq0.true _ _ c.minutes_at.ensures

pub returns-else-n-eq0 : goal.returns-else-n-eq0
unfolding slot_minutes_is slot_minutes_row lent_row
returns-else-n-eq0 c =
    let n = said _ (checked-more _ _ refl c.lent_refusal.ensures (link c.check-n.ensures ends)) in
    answer-refused _ _ n c.if-n-eq0.false _
