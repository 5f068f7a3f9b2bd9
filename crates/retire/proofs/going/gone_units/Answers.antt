-- `retire::going::gone_units` meets its contract. Assumes nothing.
use Rattle.std.proofs.Common.{sym, ◌∙◌}
use Rattle.paper.proofs.Count.{all_none, all_more}
use Rattle.owners.proofs.Scans.{scan-fails, scan-ends}
use Rattle.retire.specs.Going.{gone_units}
use Rattle.retire.proofs.going.gone_units.Goals as goal

pub loop-u-init : goal.loop-u-init
loop-u-init c = all_none _

pub loop-u-preserved : goal.loop-u-preserved
loop-u-preserved c = all_more _ _ c.loop-u.invariant (sym c.frozen_whole.ensures ∙ c.if-not-frozen_whole.false)

pub returns-then-not-frozen_whole : goal.returns-then-not-frozen_whole
unfolding gone_units
returns-then-not-frozen_whole c =
    scan-fails _ _ _ c.loop-u-test.true c.loop-u.invariant (sym c.frozen_whole.ensures ∙ c.if-not-frozen_whole.true)

pub returns : goal.returns
unfolding gone_units
returns c = scan-ends _ _ _ c.loop-u.auto.u-end c.loop-u-test.false c.loop-u.invariant
