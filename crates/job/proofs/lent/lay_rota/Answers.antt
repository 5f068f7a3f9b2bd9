-- `job::lent::lay_rota` meets its contract. Assumes nothing.
use native.Mathlib.Omega.{arith}
use Rattle.job.specs.Begun.{derived_from}
use Rattle.job.proofs.Lays.{rota-room, derived-is}
use Rattle.job.proofs.lent.lay_rota.Goals as goal

pub lay-requires : goal.lay-requires
lay-requires c = omega (arith, (rota-room _ _ c.requires).owners)

pub lay-requires-2 : goal.lay-requires-2
lay-requires-2 c = omega (arith, (rota-room _ _ c.requires).sets)

pub lay-requires-3 : goal.lay-requires-3
lay-requires-3 c = omega (arith, (rota-room _ _ c.requires).minutes)

pub lay-requires-4 : goal.lay-requires-4
lay-requires-4 c = omega (arith, (rota-room _ _ c.requires).totals)

pub returns : goal.returns
returns c =
    record {
      owners_after = c.lay.ensures;
      totals_after = derived-is (derived_from c.args.b.now) _ _ _ _ c.lay-2.ensures c.lay-3.ensures c.lay-4.ensures;
    }
