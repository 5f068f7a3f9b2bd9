-- `slots::split::split_all` meets its contract. Assumes nothing.
use native.Mathlib.Omega.{arith}
use Rattle.slots.proofs.CutLaws.{grow-starts, grow-more, grow-full, grow-ends}
use Rattle.slots.proofs.split.split_all.Goals as goal

pub loop-i-init : goal.loop-i-init
loop-i-init c = grow-starts _ _ _ _ _

pub returns-in_err-count : goal.returns-in_err-count
returns-in_err-count c =
    rw c.from_residual.ensures
    (grow-full _ _ _ _ _ _ _ _ _ _ _ _ c.loop-i.invariant c.split_slot.ensures _ c.loop-i-test.true c.in_err-count.was)

pub loop-i-preserved : goal.loop-i-preserved
loop-i-preserved c =
    let grown = c.split_slot in
    grow-more _ _ _ _ _ _ _ _ _ _ _ _ c.loop-i.invariant grown.ensures grown.auto.starts grown.auto.ends _ c.in_ok-count.was

pub returns : goal.returns
returns c = grow-ends _ _ _ _ _ _ _ _ _ _ c.loop-i.invariant (omega arith) c.loop-i-test.false
