-- `slotset::row::load` meets its contract. Assumes nothing.
use mathlib.Core.Path.{sym, ◌∙◌}
use native.Mathlib.Omega.{arith}
use Rattle.slotset.specs.Answers.{load_of}
use Rattle.paper.proofs.Rows.{said}
use Rattle.slotset.proofs.Refusals.{row-says, changed-is, changed-refused}
use Rattle.slotset.proofs.row.load.Goals as goal

pub overflow_mul-person : goal.overflow_mul-person
overflow_mul-person c =
    let r = row-says _ _ _ _ (sym (said _ c.row_refusal-number.ensures) ∙ c.if-number-eq0.true) in
    omega (arith, r.few, r.known)

pub words_at-read-requires : goal.words_at-read-requires
words_at-read-requires c = (row-says _ _ _ _ (sym (said _ c.row_refusal-number.ensures) ∙ c.if-number-eq0.true)).words

pub returns-then-number-eq0 : goal.returns-then-number-eq0
unfolding load_of
returns-then-number-eq0 c =
    changed-is _ _ (said _ c.row_refusal-number.ensures) c.if-number-eq0.true _ _ _ _ c.words_at-read.ensures

pub returns : goal.returns
unfolding load_of
returns c = changed-refused _ _ (said _ c.row_refusal-number.ensures) c.if-number-eq0.false _ _
