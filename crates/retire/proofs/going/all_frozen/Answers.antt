-- `retire::going::all_frozen` meets its contract. Assumes nothing.
use Rattle.std.proofs.Common.{sym, ◌∙◌, arith}
use Rattle.paper.proofs.Count.{in-none, in-more, in-fails}
use Rattle.owners.proofs.Scans.{in-past}
use Rattle.retire.proofs.going.all_frozen.Goals as goal

pub loop-k-init : goal.loop-k-init
loop-k-init c = (omega arith, in-none _ _)

pub loop-k-preserved : goal.loop-k-preserved
loop-k-preserved c = (omega arith, in-more _ _ _ c.loop-k.auto.k c.loop-k.invariant.1 (sym c.is_frozen.ensures ∙ c.if-not-is_frozen.false))

pub returns-then-not-is_frozen : goal.returns-then-not-is_frozen
returns-then-not-is_frozen c = in-fails _ _ _ _ c.loop-k.auto.k c.loop-k-test.true (sym c.is_frozen.ensures ∙ c.if-not-is_frozen.true)

pub returns : goal.returns
returns c = in-past _ _ _ _ c.loop-k.invariant.0 c.loop-k-test.false c.loop-k.invariant.1
