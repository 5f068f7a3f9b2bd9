-- `columns::next_change` meets its contract. Assumes nothing.
use Rattle.columns.proofs.Parts.{change-of-frozen, change-of-open}
use Rattle.columns.proofs.next_change.Goals as goal

pub returns-then-is_frozen : goal.returns-then-is_frozen
returns-then-is_frozen c =
    let pre = c.requires in
    change-of-frozen _ _ pre.0 pre.1 _ pre.2 _ c.is_frozen.ensures c.if-is_frozen.true _
    c.next_unset_after.ensures _ c.found_or.ensures

pub returns : goal.returns
returns c =
    let pre = c.requires in
    change-of-open _ _ pre.0 pre.1 _ pre.2 _ c.is_frozen.ensures c.if-is_frozen.false _
    c.next_set.ensures _ c.found_or-2.ensures
