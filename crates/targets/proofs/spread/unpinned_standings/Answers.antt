-- `targets::spread::unpinned_standings` meets its contract. Assumes nothing.
use Rattle.std.proofs.Common.{map, sym, arith, length-set, rules}
use lib.ListN.{length-map, get_or-map}
use Rattle.targets.specs.SecondEdition.{unpin}
use Rattle.targets.proofs.Loops.{put}
use Rattle.targets.proofs.spread.unpinned_standings.Goals as goal

pub loop-i-preserved : goal.loop-i-preserved
loop-i-preserved c =
    let a = c.args in
    let p = c.loop-i in (
      search rules,
      simp length-set p.invariant.1,
      put (map unpin a.standings) a.standings p.i _ p.invariant.2 (sym (get_or-map unpin a.standings p.i _))
          (omega (arith, length-map a.standings unpin)) (omega arith),
    )
