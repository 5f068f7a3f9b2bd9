-- `owners::scan::first_unavailable` meets its contract. Assumes nothing.
use Rattle.std.proofs.Common.{◌∙◌}
use Rattle.paper.proofs.Count.{all_none, all_more}
use Rattle.owners.proofs.Scans.{scan-fails, scan-ends, available-here}
use Rattle.owners.proofs.scan.first_unavailable.Goals as goal

pub loop-k-init : goal.loop-k-init
loop-k-init c = all_none _

pub loop-k-preserved : goal.loop-k-preserved
loop-k-preserved c =
    let test = available-here _ _ _ _ _ c.owner_at.ensures c.available_for.ensures in
    all_more _ _ c.loop-k.invariant (test ∙ c.if-not-available_for.false)

pub returns-then-not-available_for : goal.returns-then-not-available_for
returns-then-not-available_for c =
    let test = available-here _ _ _ _ _ c.owner_at.ensures c.available_for.ensures in
    scan-fails _ _ _ c.loop-k-test.true c.loop-k.invariant (test ∙ c.if-not-available_for.true)

pub returns : goal.returns
returns c = scan-ends _ _ _ c.loop-k.auto.k-end c.loop-k-test.false c.loop-k.invariant
