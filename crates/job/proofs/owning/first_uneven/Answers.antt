-- `job::owning::first_uneven` meets its contract. The invariant: the first u units are even. Assumes nothing.
use mathlib.Core.Path.{sym, ◌∙◌}
use native.Mathlib.Omega.{arith}
use Rattle.paper.proofs.Count.{all_none, all_more}
use Rattle.owners.proofs.Scans.{scan-fails, scan-ends}
use Rattle.job.specs.Stages.{uneven_in}
use Rattle.job.proofs.owning.first_uneven.Goals as goal

pub loop-u-init : goal.loop-u-init
loop-u-init c = (all_none _, omega arith)

pub loop-u-preserved : goal.loop-u-preserved
loop-u-preserved c = (all_more _ _ c.loop-u.invariant.0 (sym c.unit_even.ensures ∙ c.if-not-unit_even.false), omega arith)

pub returns-then-not-unit_even : goal.returns-then-not-unit_even
unfolding uneven_in
returns-then-not-unit_even c =
    scan-fails _ _ _ c.loop-u-test.true c.loop-u.invariant.0 (sym c.unit_even.ensures ∙ c.if-not-unit_even.true)

pub returns : goal.returns
unfolding uneven_in
returns c = scan-ends _ _ _ c.loop-u.invariant.1 c.loop-u-test.false c.loop-u.invariant.0
