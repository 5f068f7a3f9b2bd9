-- `targets::levels::left_after` meets its contract. Assumes nothing.
use Rattle.std.proofs.Common.{◌∙◌}
use Rattle.targets.proofs.LevelLaws.{one-fewer, left-on, left-off}
use Rattle.targets.proofs.levels.left_after.Goals as goal

pub returns-then-is_reached : goal.returns-then-is_reached
returns-then-is_reached c =
    let a = c.args in
    left-on a.level a.left a.l c.is_reached.ensures c.if-is_reached.true (c.saturating_sub.ensures ∙ one-fewer a.left)

pub returns : goal.returns
returns c =
    let a = c.args in
    left-off a.level a.left a.l c.is_reached.ensures c.if-is_reached.false
