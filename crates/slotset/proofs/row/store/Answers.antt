-- `slotset::row::store` meets its contract. Assumes nothing.
use borrow.Author.Rules.{rules}
use mathlib.Core.Path.{◌≡◌, sym, ◌∙◌}
use native.Mathlib.Omega.{arith}
use lib.ListN.{length}
use Rattle.slotset.specs.Answers.{store_of}
use Rattle.paper.proofs.Rows.{said}
use Rattle.slotset.proofs.Refusals.{row-says, work-is, old-is}
use Rattle.slotset.proofs.row.store.Goals as goal

pub overflow_mul-person : goal.overflow_mul-person
overflow_mul-person c =
    let k = c in
    let r = row-says _ _ _ _ (sym (said _ k.row_refusal-number.ensures) ∙ k.if-number-eq0.true) in
    omega (arith, r.few, r.known)

pub copy_slots-requires : goal.copy_slots-requires
copy_slots-requires c =
    let k = c in
    let n : length k.args.set.words ≡ 16 = search rules in
    let r = row-says _ _ _ _ (sym (said _ k.row_refusal-number.ensures) ∙ k.if-number-eq0.true) in
    (r.words, r.short, n)

pub returns-then-number-eq0 : goal.returns-then-number-eq0
unfolding store_of
returns-then-number-eq0 c =
    let k = c in (
      sym k.if-number-eq0.true ∙ said _ k.row_refusal-number.ensures,
      work-is _ _ (said _ k.row_refusal-number.ensures) k.if-number-eq0.true _ _ _ c.copy_slots.ensures,
    )

pub returns : goal.returns
unfolding store_of
returns c = (said _ c.row_refusal-number.ensures, old-is _ _ (said _ c.row_refusal-number.ensures) c.if-number-eq0.false _ _)
