-- `slotset::row::same_sets` meets its contract. Assumes nothing.
use mathlib.Core.Path.{sym, ◌∙◌}
use Rattle.paper.proofs.Rows.{said}
use Rattle.slotset.proofs.Refusals.{same-says, answer-is, answer-refused}
use Rattle.slotset.proofs.row.same_sets.Goals as goal

pub all_same-requires : goal.all_same-requires
all_same-requires c = same-says _ _ _ _ (sym (said _ c.same_sets_refusal-number.ensures) ∙ c.if-number-eq0.true)

pub returns-then-number-eq0 : goal.returns-then-number-eq0
returns-then-number-eq0 c =
    let b = c in
    answer-is _ _ (said _ b.same_sets_refusal-number.ensures) b.if-number-eq0.true _ _ c.all_same.ensures

pub returns : goal.returns
returns c = answer-refused _ _ (said _ c.same_sets_refusal-number.ensures) c.if-number-eq0.false _
