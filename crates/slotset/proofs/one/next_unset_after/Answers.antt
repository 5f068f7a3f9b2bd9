-- `slotset::one::next_unset_after` meets its contract. Assumes nothing.
use mathlib.Core.Path.{sym, ◌∙◌}
use Rattle.paper.proofs.Rows.{said}
use Rattle.slotset.proofs.Refusals.{set_says, answer-is, answer-refused}
use Rattle.slotset.proofs.one.next_unset_after.Goals as goal

pub next_unset_after-requires : goal.next_unset_after-requires
next_unset_after-requires c =
    let r = set_says _ _ (sym (said _ c.set_refusal-number.ensures) ∙ c.if-number-eq0.true) in
    r

pub returns-then-number-eq0 : goal.returns-then-number-eq0
returns-then-number-eq0 c = answer-is _ _ (said _ c.set_refusal-number.ensures) c.if-number-eq0.true _ _ c.next_unset_after.ensures

pub returns : goal.returns
returns c = answer-refused _ _ (said _ c.set_refusal-number.ensures) c.if-number-eq0.false _
