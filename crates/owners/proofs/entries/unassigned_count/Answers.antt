-- `owners::entries::unassigned_count` meets its contract. Assumes nothing.
use Rattle.paper.proofs.Rows.{said}
use Rattle.slotset.proofs.Refusals.{answer-is, answer-refused}
use Rattle.owners.specs.Entries.{unassigned_is}
use Rattle.owners.proofs.entries.unassigned_count.Goals as goal

pub returns-then-n-eq0 : goal.returns-then-n-eq0
unfolding unassigned_is
returns-then-n-eq0 c =
    answer-is _ _ (said _ c.unassigned_refusal-n.ensures) c.if-n-eq0.true _ _ c.count_nobody.ensures

pub returns : goal.returns
unfolding unassigned_is
returns c = answer-refused _ _ (said _ c.unassigned_refusal-n.ensures) c.if-n-eq0.false _
