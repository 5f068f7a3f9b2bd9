-- `retire::column::retire_column` meets its contract. Assumes nothing.
use mathlib.Core.Path.{sym, ◌∙◌}
use native.Mathlib.Omega.{arith}
use Rattle.paper.proofs.Rows.{said}
use Rattle.slotset.proofs.Refusals.{work-is, old-is}
use Rattle.retire.specs.Column.{retire_column}
use Rattle.retire.proofs.Rolls.{column-says}
use Rattle.retire.proofs.column.retire_column.Goals as goal

pub overflow_sub-before : goal.overflow_sub-before
overflow_sub-before c =
    omega (arith, (column-says _ _ _ _ (sym (said _ c.column_refusal-number.ensures) ∙ c.if-number-ne0.false)).fewer)

pub roll_owners-requires : goal.roll_owners-requires
roll_owners-requires c =
    let A = column-says _ _ _ _ (sym (said _ c.column_refusal-number.ensures) ∙ c.if-number-ne0.false) in
    (omega (arith, A.fewer, A.before-room), A.count_room)

pub returns : goal.returns
unfolding retire_column
returns c =
    let e = said _ c.column_refusal-number.ensures in
    let z = c.if-number-ne0.false in
    (sym z ∙ e, work-is _ _ e z _ _ _ c.roll_owners.ensures)

pub returns-then-number-ne0 : goal.returns-then-number-ne0
unfolding retire_column
returns-then-number-ne0 c =
    let e = said _ c.column_refusal-number.ensures in
    (e, old-is _ _ e c.if-number-ne0.true _ _)
