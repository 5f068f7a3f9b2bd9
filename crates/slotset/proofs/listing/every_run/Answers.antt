-- `slotset::listing::every_run` meets its contract. Assumes nothing.
use mathlib.Core.Path.{sym, ◌∙◌}
use Rattle.paper.proofs.Rows.{said}
use Rattle.slotset.proofs.Refusals.{work-is, old-is, answer-is, answer-refused}
use Rattle.slotset.proofs.Columns.{every-says}
use Rattle.slotset.proofs.listing.every_run.Goals as goal

pub list_sets-requires : goal.list_sets-requires
list_sets-requires c =
    let k = c in
    let whole = every-says _ _ _ _ _ _ (sym (said _ k.lists_refusal-number.ensures) ∙ k.if-number-eq0.true) in
    record { people_bound = whole.0; len_in_bounds = whole.1 }

pub returns-then-number-eq0 : goal.returns-then-number-eq0
returns-then-number-eq0 c =
    let l = c in
    let k = l in
    let n = said _ k.lists_refusal-number.ensures in
    let z = k.if-number-eq0.true in
    let e = l.list_sets.ensures in record { value = answer-is _ _ n z _ _ e.0; counts_after = work-is _ _ n z _ _ _ e.1; firsts_after = work-is _ _ n z _ _ _ e.2; lasts_after = work-is _ _ n z _ _ _ e.3 }

pub returns : goal.returns
returns c =
    let n = said _ c.lists_refusal-number.ensures in
    let z = c.if-number-eq0.false in
    record { value = answer-refused _ _ n z _; counts_after = old-is _ _ n z _ _; firsts_after = old-is _ _ n z _ _; lasts_after = old-is _ _ n z _ _ }
