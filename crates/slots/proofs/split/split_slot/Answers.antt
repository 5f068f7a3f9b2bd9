-- `slots::split::split_slot` meets its contract. Assumes nothing.
use Rattle.slots.proofs.CutLaws.{split-starts, split-more, split-ends, split-full}
use Rattle.slots.proofs.split.split_slot.Goals as goal

pub loop-m-init : goal.loop-m-init
loop-m-init c =
    let pre = c.requires in
    (split-starts _ _ _ _ _ pre.count_bound.0 pre.count_bound.1 pre.count_bound.2, pre.held_merged.1)

pub loop-m-preserved : goal.loop-m-preserved
loop-m-preserved c =
    let more = c.if-end-cut.false in
    (split-more _ _ _ _ _ _ _ _ _ c.loop-m.invariant.0 _ _ c.loop-m-test.true c.next_cut-cut.ensures more, more)

pub returns-then-end-cut : goal.returns-then-end-cut
returns-then-end-cut c =
    split-ends _ _ _ _ _ _ _ _ _ c.loop-m.invariant.0 _ _ c.loop-m-test.true c.next_cut-cut.ensures c.requires.count_bound.0
    c.if-end-cut.true

pub returns : goal.returns
returns c =
    let inv = c.loop-m.invariant in
    split-full _ _ _ _ _ _ _ _ _ inv.0 _ inv.1 c.requires.count_bound.0 c.loop-m-test.false
