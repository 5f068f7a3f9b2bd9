-- `job::lent::lay_ready` meets its contract. Assumes nothing.
use native.Mathlib.Omega.{arith}
use Rattle.job.specs.Begun.{ready_from}
use Rattle.job.proofs.Lays.{ready-room, ready-is}
use Rattle.job.proofs.lent.lay_ready.Goals as goal

pub lay-requires : goal.lay-requires
lay-requires c = omega (arith, (ready-room _ c.requires).starts)

pub lay-requires-2 : goal.lay-requires-2
lay-requires-2 c = omega (arith, (ready-room _ c.requires).ends)

pub lay-requires-3 : goal.lay-requires-3
lay-requires-3 c = omega (arith, (ready-room _ c.requires).avail)

pub lay-requires-4 : goal.lay-requires-4
lay-requires-4 c = omega (arith, (ready-room _ c.requires).begins)

pub lay-requires-5 : goal.lay-requires-5
lay-requires-5 c = omega (arith, (ready-room _ c.requires).frozen)

pub lay-requires-6 : goal.lay-requires-6
lay-requires-6 c = omega (arith, (ready-room _ c.requires).targets)

pub returns : goal.returns
returns c =
    ready-is (ready_from c.args.b.now) _ _ _ _ _ _ _ c.lay.ensures c.lay-2.ensures c.lay-3.ensures c.lay-4.ensures
    c.lay-5.ensures c.lay-6.ensures
