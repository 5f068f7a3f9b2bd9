-- `units::days::count_dates` meets its contract. Assumes nothing.
use mathlib.Core.Path.{ap, ◌∙◌}
use Prim.Native.Nat.{max}
use Rattle.units.proofs.Covered.{counted_none, turn-fits, counted-more, counted-end, end_fits, next-is}
use Rattle.units.proofs.days.count_dates.Goals as goal

pub loop-k-init : goal.loop-k-init
loop-k-init c = counted_none _ _ _

pub overflow_add-entry_of : goal.overflow_add-entry_of
overflow_add-entry_of c =
    let pre = c.requires in
    record { fits = end_fits _ _ _ pre _ _ c.loop-k-test.true c.entry_of.ensures }

pub overflow_sub-days : goal.overflow_sub-days
overflow_sub-days c =
    let at = c.loop-k in
    let pre = c.requires in
    let from = c.max-from.ensures ∙ ap (max _) c.start_date.ensures in
    (turn-fits _ _ _ pre _ _ _ _ _ at.invariant c.loop-k-test.true from
    (next-is _ _ _ c.entry_of.ensures c.date_of-next.ensures)).0

pub loop-k-preserved : goal.loop-k-preserved
loop-k-preserved c =
    let at = c.loop-k in
    let pre = c.requires in
    let from = c.max-from.ensures ∙ ap (max _) c.start_date.ensures in
    counted-more _ _ _ pre _ _ _ _ _ at.invariant c.loop-k-test.true from
    (next-is _ _ _ c.entry_of.ensures c.date_of-next.ensures)

pub returns : goal.returns
returns c = counted-end _ _ _ _ _ _ c.loop-k.invariant c.loop-k-test.false
