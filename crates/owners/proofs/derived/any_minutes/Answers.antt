-- `owners::derived::any_minutes` meets its contract. Assumes nothing.
use Rattle.std.proofs.Common.{refl, ◌∙◌, arith}
use Rattle.owners.proofs.Steps.{stretch-none, stretch-more, stretch-end}
use Rattle.owners.proofs.derived.any_minutes.Goals as goal

pub loop-k-init : goal.loop-k-init
loop-k-init c = (omega arith, stretch-none _ _ _)

pub loop-k-preserved : goal.loop-k-preserved
loop-k-preserved c =
    (omega arith, stretch-more _ _ _ _ _ _ _ c.loop-k.auto.k c.loop-k.invariant.1 (c.from-total.ensures ∙ c.minutes_at.ensures) refl)

pub returns : goal.returns
returns c = c.loop-k.invariant.1 ∙ stretch-end _ _ _ _ _ c.loop-k.invariant.0 c.loop-k-test.false
