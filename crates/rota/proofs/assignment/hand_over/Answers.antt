-- `rota::assignment::hand_over` meets its contract. Assumes nothing.
use native.Mathlib.Omega.{arith}
use Rattle.owners.specs.Derived.{plan, derived}
use Rattle.owners.proofs.Steps.{handed}
use Rattle.rota.proofs.assignment.hand_over.Goals as goal

pub returns : goal.returns
returns c =
    let k = c.slice_known-2-1 in
    let x = c.args in
    handed (plan x.people x.slots x.starts.now x.ends.now) x.owners.now (derived x.sets.now x.minutes.now
    x.totals.now)
    x.a x.e x.to c.requires.plan_sound c.requires.in_step c.requires.one_owner c.requires.to_value (λ j. omega (arith, k.given j)) _ _
    c.hand_over.ensures.0 c.hand_over.ensures.1
