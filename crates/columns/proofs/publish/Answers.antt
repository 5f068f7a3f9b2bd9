-- `columns::publish` meets its contract. Assumes nothing.
use mathlib.Core.Path.{sym, ◌∙◌}
use Rattle.paper.proofs.Rows.{said}
use Rattle.slotset.proofs.Refusals.{work-is, old-is}
use Rattle.columns.specs.Publishing.{publish_of}
use Rattle.columns.proofs.Parts.{columns-says}
use Rattle.columns.proofs.publish.Goals as goal

pub copy_open-requires : goal.copy_open-requires
copy_open-requires c = columns-says _ _ _ _ (sym (said _ c.columns_refusal-number.ensures) ∙ c.if-number-eq0.true)

pub returns-then-number-eq0 : goal.returns-then-number-eq0
unfolding publish_of
returns-then-number-eq0 c =
    let e = said _ c.columns_refusal-number.ensures in
    let z = c.if-number-eq0.true in
    (sym z ∙ e, work-is _ _ e z _ _ _ c.copy_open.ensures)

pub returns : goal.returns
unfolding publish_of
returns c =
    let e = said _ c.columns_refusal-number.ensures in
    (e, old-is _ _ e c.if-number-eq0.false _ _)
