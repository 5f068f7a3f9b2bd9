-- `mend::clearing::clear_barred` meets its contract. Assumes nothing.
use mathlib.Core.Path.{sym}
use Rattle.paper.proofs.Count.{over_none}
use Rattle.mend.proofs.Cleared.{barred-more, barred-end}
use Rattle.mend.proofs.clearing.clear_barred.Goals as goal

pub loop-k-init : goal.loop-k-init
loop-k-init c = sym (over_none _ _)

pub loop-k-preserved : goal.loop-k-preserved
loop-k-preserved c = barred-more _ _ _ _ _ _ c.loop-k.invariant c.left_to.ensures

pub returns : goal.returns
returns c = barred-end _ _ _ _ _ _ c.loop-k.auto.k-end c.loop-k-test.false c.loop-k.invariant
