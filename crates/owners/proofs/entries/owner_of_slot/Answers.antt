-- `owners::entries::owner_of_slot` meets its contract. Assumes nothing.
use Rattle.paper.proofs.Rows.{said}
use Rattle.slotset.proofs.Refusals.{answer-is, answer-refused}
use Rattle.owners.specs.Entries.{owner_is}
use Rattle.owners.proofs.entries.owner_of_slot.Goals as goal

pub returns-then-n-eq0 : goal.returns-then-n-eq0
unfolding owner_is
returns-then-n-eq0 c =
    answer-is _ _ (said _ c.owner_refusal-n.ensures) c.if-n-eq0.true _ _ c.owner_at.ensures

pub returns : goal.returns
unfolding owner_is
returns c = answer-refused _ _ (said _ c.owner_refusal-n.ensures) c.if-n-eq0.false _
