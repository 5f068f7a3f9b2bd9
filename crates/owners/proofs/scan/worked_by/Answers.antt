-- `owners::scan::worked_by` meets its contract. Assumes nothing.
use Rattle.std.proofs.Common.{sym, arith}
use Rattle.paper.proofs.Count.{sum-none, sum_done}
use Rattle.owners.specs.Derived.{plan, worked}
use Rattle.owners.proofs.Scans.{worked-more, worked-fits}
use Rattle.owners.proofs.scan.worked_by.Goals as goal

pub loop-k-init : goal.loop-k-init
loop-k-init c = sym (sum-none _)

pub overflow_add-total : goal.overflow_add-total
overflow_add-total c =
    let a = c.args in
    let x = worked-fits (plan a.people a.slots a.starts.now a.ends.now) a.owners.now a.person _ _ _ _ c.loop-k.invariant
    c.minutes_at.ensures c.portion_of-total.ensures c.requires.plan_sound c.loop-k-test.true in
    omega arith

pub loop-k-preserved : goal.loop-k-preserved
loop-k-preserved c =
    let a = c.args in
    worked-more (plan a.people a.slots a.starts.now a.ends.now) a.owners.now a.person _ _ _ _ c.loop-k.invariant
    c.minutes_at.ensures c.portion_of-total.ensures

pub returns : goal.returns
unfolding worked
returns c = sum_done _ _ _ _ c.loop-k.auto.k-end c.loop-k-test.false c.loop-k.invariant
