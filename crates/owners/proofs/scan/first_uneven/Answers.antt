-- `owners::scan::first_uneven` meets its contract. Assumes nothing.
use Rattle.std.proofs.Common.{sym, ◌∙◌}
use Rattle.paper.proofs.Count.{all_none, all_more}
use Rattle.owners.proofs.Scans.{scan-fails, scan-ends}
use Rattle.owners.proofs.scan.first_uneven.Goals as goal

pub loop-u-init : goal.loop-u-init
loop-u-init c = all_none _

pub loop-u-preserved : goal.loop-u-preserved
loop-u-preserved c = all_more _ _ c.loop-u.invariant (sym c.is_even.ensures ∙ c.if-not-is_even.false)

pub returns-then-not-is_even : goal.returns-then-not-is_even
returns-then-not-is_even c = scan-fails _ _ _ c.loop-u-test.true c.loop-u.invariant (sym c.is_even.ensures ∙ c.if-not-is_even.true)

pub returns : goal.returns
returns c = scan-ends _ _ _ c.loop-u.auto.u-end c.loop-u-test.false c.loop-u.invariant
