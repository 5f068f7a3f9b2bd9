-- `owners::entries::minutes_of` meets its contract. Assumes nothing.
use Rattle.paper.proofs.Rows.{said}
use Rattle.slotset.proofs.Refusals.{answer-is, answer-refused}
use Rattle.owners.specs.Entries.{minutes_is}
use Rattle.owners.proofs.entries.minutes_of.Goals as goal

pub returns-then-n-eq0 : goal.returns-then-n-eq0
unfolding minutes_is
returns-then-n-eq0 c = answer-is _ _ (said _ c.minutes_refusal-n.ensures) c.if-n-eq0.true _ _ c.minutes_at.ensures

pub returns : goal.returns
unfolding minutes_is
returns c = answer-refused _ _ (said _ c.minutes_refusal-n.ensures) c.if-n-eq0.false _
