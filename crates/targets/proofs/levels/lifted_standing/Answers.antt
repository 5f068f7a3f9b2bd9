-- `targets::levels::lifted_standing` meets its contract. Assumes nothing.
use Rattle.targets.proofs.LevelLaws.{standing_on, standing-off}
use Rattle.targets.proofs.levels.lifted_standing.Goals as goal

pub returns-then-is_reached : goal.returns-then-is_reached
returns-then-is_reached c =
    let a = c.args in
    standing_on a.level a.left a.l c.is_reached.ensures c.if-is_reached.true c.on_level-target.ensures

pub returns : goal.returns
returns c =
    let a = c.args in
    standing-off a.level a.left a.l c.is_reached.ensures c.if-is_reached.false
