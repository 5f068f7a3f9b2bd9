-- `runs::all_runs` meets its contract. Assumes nothing.
use mathlib.Core.Path.{sym, ◌∙◌}
use Rattle.paper.proofs.Rows.{said}
use Rattle.slotset.proofs.Refusals.{work-is, old-is, answer-is, answer-refused}
use Rattle.runs.proofs.Listing.{list-says}
use Rattle.runs.proofs.all_runs.Goals as goal

pub list_runs-requires : goal.list_runs-requires
list_runs-requires c =
    let s = list-says _ _ _ _ _ _ (sym (said _ c.list_refusal-number.ensures) ∙ c.if-number-eq0.true) in
    record { len_value = s.0; len_in_bounds = s.1 }

pub returns-then-number-eq0 : goal.returns-then-number-eq0
returns-then-number-eq0 c =
    let n = said _ c.list_refusal-number.ensures in
    let z = c.if-number-eq0.true in
    let e = c.list_runs.ensures in
    (answer-is _ _ n z _ _ e.0, (work-is _ _ n z _ _ _ e.1.0, work-is _ _ n z _ _ _ e.1.1))

pub returns : goal.returns
returns c =
    let n = said _ c.list_refusal-number.ensures in
    let z = c.if-number-eq0.false in
    (answer-refused _ _ n z _, (old-is _ _ n z _ _, old-is _ _ n z _ _))
