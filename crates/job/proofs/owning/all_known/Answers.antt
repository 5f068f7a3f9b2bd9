-- `job::owning::all_known` meets its contract. The invariant: the first k records are right. Assumes nothing.
use mathlib.Core.Path.{sym, ◌∙◌}
use native.Mathlib.Omega.{arith}
use Rattle.paper.proofs.Count.{all_none, all_more, all-fails, all_done}
use Rattle.job.specs.Stages.{all_known}
use Rattle.job.proofs.owning.all_known.Goals as goal

pub loop-k-init : goal.loop-k-init
loop-k-init c = (all_none _, omega arith)

pub loop-k-preserved : goal.loop-k-preserved
loop-k-preserved c =
    (all_more _ _ c.loop-k.invariant.0 (sym c.record_known.ensures ∙ c.if-not-record_known.false), omega arith)

pub returns-then-not-record_known : goal.returns-then-not-record_known
unfolding all_known
returns-then-not-record_known c =
    sym (all-fails _ _ _ c.loop-k-test.true (sym c.record_known.ensures ∙ c.if-not-record_known.true))

pub returns : goal.returns
unfolding all_known
returns c = all_done _ _ _ c.loop-k.invariant.1 c.loop-k-test.false c.loop-k.invariant.0
