-- `slotset::one::is_empty` meets its contract. Assumes nothing.
use mathlib.Core.Path.{sym, ◌∙◌}
use Rattle.paper.proofs.Rows.{said}
use Rattle.slotset.proofs.Refusals.{set_says, answer-is, answer-refused}
use Rattle.slotset.proofs.one.is_empty.Goals as goal

pub is_empty-requires : goal.is_empty-requires
is_empty-requires c =
    let r = set_says _ _ (sym (said _ c.set_refusal-number.ensures) ∙ c.if-number-eq0.true) in
    r

pub returns-then-number-eq0 : goal.returns-then-number-eq0
returns-then-number-eq0 c =
    let k = c in
    answer-is _ _ (said _ k.set_refusal-number.ensures) k.if-number-eq0.true _ _ c.is_empty.ensures

pub returns : goal.returns
returns c = answer-refused _ _ (said _ c.set_refusal-number.ensures) c.if-number-eq0.false _
