-- `slotset::SlotSet::new` meets its contract. Assumes nothing.
use mathlib.Core.Path.{refl}
use Rattle.slotset.specs.Answers.{new_of}
use Rattle.paper.proofs.Rows.{said}
use Rattle.slotset.proofs.Refusals.{changed-is, changed-refused}
use Rattle.slotset.proofs.SlotSet.new.Goals as goal

pub returns-then-number-eq0 : goal.returns-then-number-eq0
unfolding new_of
returns-then-number-eq0 c = changed-is _ _ (said _ c.len_refusal-number.ensures) c.if-number-eq0.true _ _ _ _ refl

pub returns : goal.returns
unfolding new_of
returns c = changed-refused _ _ (said _ c.len_refusal-number.ensures) c.if-number-eq0.false _ _
