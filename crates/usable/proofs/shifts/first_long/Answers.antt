-- `usable::shifts::first_long` meets its contract. Assumes nothing.
use mathlib.Core.Path.{sym, ◌∙◌}
use native.Mathlib.Omega.{arith}
use Rattle.usable.proofs.Walks.{fault-none, fault-first, fault-kept, fault-here, capped-end, capped-here}
use Rattle.usable.proofs.shifts.first_long.Goals as goal

pub loop-k-init : goal.loop-k-init
loop-k-init c = (fault-none _ _, λ h. absurd (omega arith))

pub loop-k-preserved : goal.loop-k-preserved
loop-k-preserved c =
    let L = c.loop-k in
    let z = c.loop-k-test.true in
    let e = c.shift_end-end.ensures in
    let ok = sym (capped-here _ _ _ _ _ _ _ _ _ z L.auto.k L.invariant.1 e c.is_capped.ensures) ∙ c.if-not-is_capped.false in (
      fault-kept _ _ _ _ z L.auto.k ok L.invariant.0,
      λ h. capped-end _ _ _ _ _ _ _ _ _ z L.auto.k L.invariant.1 e c.is_capped.ensures,
    )

pub loop-k-preserved-then-not-is_capped : goal.loop-k-preserved-then-not-is_capped
loop-k-preserved-then-not-is_capped c =
    let L = c.loop-k in
    let z = c.loop-k-test.true in
    let e = c.shift_end-end.ensures in
    let bad = sym (capped-here _ _ _ _ _ _ _ _ _ z L.auto.k L.invariant.1 e c.is_capped.ensures) ∙ c.if-not-is_capped.true in (
      fault-here _ _ _ z L.auto.k bad,
      λ h. capped-end _ _ _ _ _ _ _ _ _ z L.auto.k L.invariant.1 e c.is_capped.ensures,
    )

pub returns : goal.returns
returns c = fault-first _ _ _ _ (omega arith) c.loop-k.invariant.0
