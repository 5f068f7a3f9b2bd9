-- `columns::is_published` meets its contract. Assumes nothing.
use Rattle.paper.proofs.Rows.{said}
use Rattle.slotset.proofs.Refusals.{answer-is, answer-refused}
use Rattle.columns.proofs.is_published.Goals as goal

pub returns-then-number-eq0 : goal.returns-then-number-eq0
returns-then-number-eq0 c = answer-is _ _ (said _ c.stretch_refusal-number.ensures) c.if-number-eq0.true _ _ c.is_frozen.ensures

pub returns : goal.returns
returns c = answer-refused _ _ (said _ c.stretch_refusal-number.ensures) c.if-number-eq0.false _
