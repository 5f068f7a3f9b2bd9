-- `owners::scan::first_wrong_slot` meets its contract. Assumes nothing.
use Rattle.std.proofs.Common.{◌∙◌}
use Rattle.paper.proofs.Count.{all_none, all_more}
use Rattle.owners.proofs.Scans.{scan-fails, scan-ends, member-test}
use Rattle.owners.proofs.scan.first_wrong_slot.Goals as goal

pub loop-k-init : goal.loop-k-init
loop-k-init c = all_none _

pub loop-k-preserved : goal.loop-k-preserved
loop-k-preserved c =
    let test = member-test _ _ _ _ _ _ _ c.owner_at.ensures c.holds.ensures c.same_bit.ensures in
    all_more _ _ c.loop-k.invariant (test ∙ c.if-not-same_bit.false)

pub returns-then-not-same_bit : goal.returns-then-not-same_bit
returns-then-not-same_bit c =
    let test = member-test _ _ _ _ _ _ _ c.owner_at.ensures c.holds.ensures c.same_bit.ensures in
    scan-fails _ _ _ c.loop-k-test.true c.loop-k.invariant (test ∙ c.if-not-same_bit.true)

pub returns : goal.returns
returns c = scan-ends _ _ _ c.loop-k.auto.k-end c.loop-k-test.false c.loop-k.invariant
