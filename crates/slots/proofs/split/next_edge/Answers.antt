-- `slots::split::next_edge` meets its contract. Assumes nothing.
use native.Mathlib.Omega.{arith}
use Rattle.slots.proofs.EdgeLaws.{edge-close, edge-open}
use Rattle.slots.proofs.split.next_edge.Goals as goal

pub returns-then-place-close : goal.returns-then-place-close
returns-then-place-close c =
    edge-close c.args.keys.now c.args.n c.requires.held_merged.0 _ _ c.requires.opening _ c.if-r-gt0.true
    c.closes_at-close.ensures c.if-place-close.true

pub returns-then-r-gt0 : goal.returns-then-r-gt0
returns-then-r-gt0 c =
    edge-open c.args.keys.now c.args.n c.requires.held_merged.0 _ _ c.requires.opening _
    (λ z. omega (arith, c.closes_at-close.ensures, c.if-place-close.false)) c.requires.held_merged.1 c.opens_from.ensures

pub returns : goal.returns
returns c =
    edge-open c.args.keys.now c.args.n c.requires.held_merged.0 _ _ c.requires.opening _
    (λ z. absurd (omega (arith, z, c.if-r-gt0.false))) c.requires.held_merged.1 c.opens_from-2.ensures
