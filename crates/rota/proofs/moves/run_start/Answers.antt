-- `rota::moves::run_start` meets its contract. Assumes nothing.
use mathlib.Core.Path.{◌≡◌, refl, ◌∙◌}
use Prim.Native.Nat.{◌+◌, ◌-◌}
use native.Mathlib.Omega.{arith}
use Rattle.rota.proofs.Judged.{start-down, start-here, start_none}
use Rattle.rota.proofs.moves.run_start.Goals as goal

pub owner_at-owner-requires : goal.owner_at-owner-requires
owner_at-owner-requires c = (omega (arith, c.requires.starts), c.requires.owned c.args.unit (omega arith))

pub owner_at-requires : goal.owner_at-requires
owner_at-requires c =
    (omega (arith, c.requires.starts), c.requires.owned (c.args.unit - c.loop-n.n - 1) (omega arith))

pub loop-n-init : goal.loop-n-init
loop-n-init c =
    let z : c.args.unit - 0 ≡ c.args.unit = omega arith in rw z (refl, c.owner_at-owner.ensures)

pub loop-n-preserved : goal.loop-n-preserved
loop-n-preserved c =
    let so = c.loop-n.invariant in
    let z : c.args.unit - (c.loop-n.n + 1) ≡ c.args.unit - c.loop-n.n - 1 = omega arith in
    rw z (start-down _ _ _ _ _ (omega arith) so.0 so.1 c.owner_at.ensures c.if-owner_at-owner.false)

pub returns-then-owner_at-owner : goal.returns-then-owner_at-owner
returns-then-owner_at-owner c =
    let so = c.loop-n.invariant in
    start-here _ _ _ _ _ (omega arith) so.0 so.1 c.owner_at.ensures c.if-owner_at-owner.true

pub returns : goal.returns
returns c = start_none _ _ (c.args.unit - c.loop-n.n) (omega arith) c.loop-n.invariant.0
