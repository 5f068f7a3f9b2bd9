-- `columns::show` meets its contract. Assumes nothing.
use mathlib.Core.Path.{sym, ◌∙◌}
use Rattle.paper.proofs.Rows.{said}
use Rattle.slotset.proofs.Refusals.{work-is, old-is}
use Rattle.columns.specs.Publishing.{show_of}
use Rattle.columns.proofs.Parts.{show-says}
use Rattle.columns.proofs.show.Goals as goal

pub show_parts-requires : goal.show_parts-requires
show_parts-requires c =
    let whole = show-says _ _ _ _ _ (sym (said _ c.show_refusal-number.ensures) ∙ c.if-number-eq0.true) in
    record { sound = whole.0; slots_in_bounds = whole.1 }

pub returns-then-number-eq0 : goal.returns-then-number-eq0
unfolding show_of
returns-then-number-eq0 c =
    let e = said _ c.show_refusal-number.ensures in
    let z = c.if-number-eq0.true in
    (sym z ∙ e, work-is _ _ e z _ _ _ c.show_parts.ensures)

pub returns : goal.returns
unfolding show_of
returns c =
    let e = said _ c.show_refusal-number.ensures in
    (e, old-is _ _ e c.if-number-eq0.false _ _)
