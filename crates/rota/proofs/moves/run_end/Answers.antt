-- `rota::moves::run_end` meets its contract. Assumes nothing.
use mathlib.Core.Path.{◌≡◌, refl, ◌∙◌}
use Prim.Native.Nat.{◌+◌, ◌-◌, ◌≤◌}
use native.Mathlib.Omega.{arith}
use Rattle.rota.proofs.Judged.{end-up, end-here, end_none}
use Rattle.rota.proofs.moves.run_end.Goals as goal

pub owner_at-owner-requires : goal.owner_at-owner-requires
owner_at-owner-requires c =
    (omega (arith, c.requires.owner_room.starts), c.requires.owner_room.owned c.args.unit c.requires.unit_lt_units)

pub owner_at-requires : goal.owner_at-requires
owner_at-requires c =
    (omega (arith, c.requires.owner_room.starts), c.requires.owner_room.owned c.loop-u.u c.loop-u-test.true)

pub loop-u-init : goal.loop-u-init
loop-u-init c =
    let z : c.args.unit + 1 - 1 ≡ c.args.unit = omega arith in rw z (refl, c.owner_at-owner.ensures)

pub loop-u-preserved : goal.loop-u-preserved
loop-u-preserved c =
    let so = c.loop-u.invariant in
    let past : c.args.unit + 1 ≤ c.loop-u.u = c.loop-u.auto.u in
    let z : c.loop-u.u + 1 - 1 ≡ c.loop-u.u = omega arith in
    rw z (end-up _ _ _ _ _ _ _ (omega arith) so.0 so.1 c.loop-u-test.true c.owner_at.ensures c.if-owner_at-owner.false)

pub returns-then-owner_at-owner : goal.returns-then-owner_at-owner
returns-then-owner_at-owner c =
    let so = c.loop-u.invariant in
    let past : c.args.unit + 1 ≤ c.loop-u.u = c.loop-u.auto.u in
    end-here _ _ _ _ _ _ _ (omega arith) so.0 so.1 c.loop-u-test.true c.owner_at.ensures c.if-owner_at-owner.true

pub returns : goal.returns
returns c =
    let so = c.loop-u.invariant in
    let past : c.args.unit + 1 ≤ c.loop-u.u = c.loop-u.auto.u in
    let z : c.args.units - 1 ≡ c.loop-u.u - 1 = omega (arith, c.requires.unit_lt_units) in
    z ∙ end_none _ _ _ _ c.loop-u.u _ 0 (omega arith) so.0 so.1 (omega arith)
