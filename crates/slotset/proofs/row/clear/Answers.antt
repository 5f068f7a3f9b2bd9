-- `slotset::row::clear` meets its contract. Assumes nothing.
use mathlib.Core.Path.{sym, ◌∙◌}
use native.Mathlib.Omega.{arith}
use Rattle.slotset.specs.Answers.{cleared_row}
use Rattle.paper.proofs.Rows.{said}
use Rattle.slotset.proofs.Refusals.{row-says, work-is, old-is}
use Rattle.slotset.proofs.row.clear.Goals as goal

pub overflow_mul-person : goal.overflow_mul-person
overflow_mul-person c =
    let k = c in
    let r = row-says _ _ _ _ (sym (said _ k.row_refusal-number.ensures) ∙ k.if-number-eq0.true) in
    omega (arith, r.few, r.known)

pub clear-requires : goal.clear-requires
clear-requires c =
    let k = c in
    let r = row-says _ _ _ _ (sym (said _ k.row_refusal-number.ensures) ∙ k.if-number-eq0.true) in
    (r.words, r.short)

pub returns-then-number-eq0 : goal.returns-then-number-eq0
unfolding cleared_row
returns-then-number-eq0 c =
    let k = c in (
      sym k.if-number-eq0.true ∙ said _ k.row_refusal-number.ensures,
      work-is _ _ (said _ k.row_refusal-number.ensures) k.if-number-eq0.true _ _ _ c.clear.ensures,
    )

pub returns : goal.returns
unfolding cleared_row
returns c = (said _ c.row_refusal-number.ensures, old-is _ _ (said _ c.row_refusal-number.ensures) c.if-number-eq0.false _ _)
