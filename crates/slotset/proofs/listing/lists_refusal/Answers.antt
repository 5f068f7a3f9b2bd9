-- `slotset::listing::lists_refusal` meets its contract. Assumes nothing.
use mathlib.Core.Path.{refl, sym, ◌∙◌}
use native.Mathlib.Omega.{arith}
use Rattle.paper.proofs.Rows.{said, link, ends, skipped, checked-more}
use Rattle.slotset.specs.Lists.{every_run_row}
use Rattle.slotset.specs.Answers.{sets_row}
use Rattle.slotset.proofs.Columns.{sets-few, product-few}
use Rattle.slotset.proofs.listing.lists_refusal.Goals as goal

pub overflow_mul-most : goal.overflow_mul-most
overflow_mul-most c =
    let r = sets-few _ _ _ (sym (said _ c.sets_refusal-f.ensures) ∙ c.if-f-eq0.true) in
    omega (arith, product-few _ _ r.0 r.1)

pub returns-then-f-eq0 : goal.returns-then-f-eq0
unfolding every_run_row sets_row
returns-then-f-eq0 c =
    let k = c in
    checked-more _ _ refl k.sets_refusal-f.ensures
    (link k.check-f.ensures (link c.check-f-then-f-eq0.ensures (link c.check.ensures ends)))

pub returns : goal.returns
unfolding every_run_row sets_row
returns c =
    let z = c.if-f-eq0.false in
    checked-more _ _ refl c.sets_refusal-f.ensures (link (skipped _ _ z) (link (skipped _ _ z) (link (skipped _ _ z) ends)))
