-- `owners::scan::first_wrong_entry` meets its contract. Assumes nothing.
use Rattle.std.proofs.Common.{eq-eqb, ne_eqb}
use Rattle.paper.proofs.Count.{all_none, all_more}
use Rattle.owners.proofs.Scans.{scan-fails, scan-ends}
use Rattle.owners.proofs.scan.first_wrong_entry.Goals as goal

pub loop-i-init : goal.loop-i-init
loop-i-init c = all_none _

pub loop-i-preserved : goal.loop-i-preserved
loop-i-preserved c = all_more _ _ c.loop-i.invariant (eq-eqb _ _ c.if-column-i.false)

pub returns-then-column-i : goal.returns-then-column-i
returns-then-column-i c = scan-fails _ _ _ c.loop-i-test.true c.loop-i.invariant (ne_eqb _ _ c.if-column-i.true)

pub returns : goal.returns
returns c = scan-ends _ _ _ c.loop-i.auto.i-end c.loop-i-test.false c.loop-i.invariant
