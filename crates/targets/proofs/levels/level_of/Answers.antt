-- `targets::levels::level_of` meets its contract. Assumes nothing.
use Rattle.std.proofs.Common.{arith}
use Rattle.targets.proofs.SpreadLaws.{level-start}
use Rattle.targets.proofs.levels.level_of.Goals as goal

pub loop-low-init : goal.loop-low-init
loop-low-init c =
    let h = level-start c.args.minutes c.args.standings c.smallest_of-low.ensures.0 c.requires.1 c.requires.2 in
    (omega arith, omega arith, h.0, h.1)
