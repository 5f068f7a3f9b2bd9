-- `slots::lent::demand` meets its contract. Assumes nothing.
use mathlib.Core.Path.{sym, ◌∙◌}
use Rattle.slots.specs.Lent.{demand_is}
use Rattle.paper.proofs.Rows.{said}
use Rattle.slotset.proofs.Refusals.{answer-is, answer-refused}
use Rattle.slots.proofs.LentLaws.{lent_says, when-ok}
use Rattle.slots.proofs.lent.demand.Goals as goal

pub returns-then-n-eq0 : goal.returns-then-n-eq0
unfolding demand_is
returns-then-n-eq0 c =
    let e = said _ c.lent_refusal-n.ensures in
    let z = c.if-n-eq0.true in
    answer-is _ _ e z _ _ (c.demand_of.ensures ∙ when-ok _ _ _ (lent_says _ _ _ (sym e ∙ z)).1)

pub returns-else-n-eq0 : goal.returns-else-n-eq0
unfolding demand_is
returns-else-n-eq0 c = answer-refused _ _ (said _ c.lent_refusal-n.ensures) c.if-n-eq0.false _
