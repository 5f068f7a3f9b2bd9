-- `targets::levels::is_reached` meets its contract. Assumes nothing.
use Rattle.targets.specs.Levels.{reached}
use Rattle.targets.proofs.levels.is_reached.Goals as goal

pub returns-then-not-l : goal.returns-then-not-l
unfolding reached
returns-then-not-l c = rw c.if-not-l.true

pub returns-else-not-l : goal.returns-else-not-l
unfolding reached
returns-else-not-l c = rw c.if-not-l.false
