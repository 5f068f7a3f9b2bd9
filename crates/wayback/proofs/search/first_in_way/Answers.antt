-- `wayback::search::first_in_way` meets its contract. Assumes nothing.
use mathlib.Core.Path.{sym, ap, ◌∙◌}
use mathlib.Core.Bool.{not}
use native.Mathlib.Omega.{arith}
use Rattle.paper.proofs.Count.{all_none, all_more}
use Rattle.owners.proofs.Scans.{scan-fails, scan-ends}
use Rattle.wayback.proofs.search.first_in_way.Goals as goal

pub loop-u-init : goal.loop-u-init
loop-u-init c = all_none _

pub returns-then-stands_in_way : goal.returns-then-stands_in_way
returns-then-stands_in_way c =
    scan-fails _ _ _ c.loop-u-test.true c.loop-u.invariant
    (ap not (sym c.stands_in_way.ensures ∙ c.if-stands_in_way.true))

pub loop-u-preserved : goal.loop-u-preserved
loop-u-preserved c = all_more _ _ c.loop-u.invariant (ap not (sym c.stands_in_way.ensures ∙ c.if-stands_in_way.false))

pub returns : goal.returns
returns c = scan-ends _ _ _ (omega arith) c.loop-u-test.false c.loop-u.invariant
