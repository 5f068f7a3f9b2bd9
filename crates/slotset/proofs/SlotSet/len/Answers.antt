-- `slotset::SlotSet::len` meets its contract. Assumes nothing.
use Rattle.paper.proofs.Rows.{said}
use mathlib.Core.Path.{refl}
use Rattle.slotset.proofs.SlotSet.len.Goals as goal
use Rattle.slotset.proofs.Refusals.{answer-is, answer-refused}

pub returns-then-number-eq0 : goal.returns-then-number-eq0
returns-then-number-eq0 c = answer-is _ _ (said _ c.len_refusal-number.ensures) c.if-number-eq0.true _ _ refl

pub returns : goal.returns
returns c = answer-refused _ _ (said _ c.len_refusal-number.ensures) c.if-number-eq0.false _
