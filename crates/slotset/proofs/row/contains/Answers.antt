-- `slotset::row::contains` meets its contract. Assumes nothing.
use mathlib.Core.Path.{sym, ◌∙◌}
use native.Mathlib.Omega.{arith}
use Rattle.paper.proofs.Rows.{said}
use Rattle.slotset.proofs.Refusals.{row-says, answer-is, answer-refused}
use Rattle.slotset.proofs.row.contains.Goals as goal

pub overflow_mul-person : goal.overflow_mul-person
overflow_mul-person c =
    let r = row-says _ _ _ _ (sym (said _ c.row_refusal-number.ensures) ∙ c.if-number-eq0.true) in
    omega (arith, r.few, r.known)

pub contains-requires : goal.contains-requires
contains-requires c =
    let r = row-says _ _ _ _ (sym (said _ c.row_refusal-number.ensures) ∙ c.if-number-eq0.true) in
    (r.words, r.short)

pub returns-then-number-eq0 : goal.returns-then-number-eq0
returns-then-number-eq0 c =
    let k = c in
    answer-is _ _ (said _ k.row_refusal-number.ensures) k.if-number-eq0.true _ _ c.contains.ensures

pub returns : goal.returns
returns c = answer-refused _ _ (said _ c.row_refusal-number.ensures) c.if-number-eq0.false _
