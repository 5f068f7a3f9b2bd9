-- `slots::avail::opened_by_from` meets its contract. Assumes nothing.
use native.Mathlib.Omega.{arith}
use Rattle.slots.proofs.AvailLaws.{opens-rise, opened-stops, opened-ends}
use Rattle.slots.proofs.avail.opened_by_from.Goals as goal

pub returns-then-place-opens_at : goal.returns-then-place-opens_at
returns-then-place-opens_at c =
    let rise = opens-rise c.args.keys.now c.args.n c.requires.n_bound.1 c.requires.n_bound.2 in
    opened-stops _ _ _ _ (omega arith) c.loop-r.invariant rise (omega (arith, c.if-place-opens_at.true, c.opens_at.ensures))

pub returns : goal.returns
returns c = opened-ends _ _ _ _ (omega arith) (λ k h. c.loop-r.invariant k (omega arith)) (omega arith)
