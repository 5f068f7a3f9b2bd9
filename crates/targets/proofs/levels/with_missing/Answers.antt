-- `targets::levels::with_missing` meets its contract. Assumes nothing.
use Rattle.targets.proofs.LevelLaws.{missing-pinned, missing-free}
use Rattle.targets.proofs.levels.with_missing.Goals as goal

pub returns-then-l : goal.returns-then-l
returns-then-l c = let a = c.args in missing-pinned a.level a.sum a.l c.if-l.true

pub returns : goal.returns
returns c = let a = c.args in rw c.saturating_sub.ensures (missing-free a.level a.sum a.l c.if-l.false)
