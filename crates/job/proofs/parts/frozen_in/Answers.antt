-- `job::parts::frozen_in` meets its contract. Assumes nothing.
use mathlib.Core.Path.{◌∙◌}
use Rattle.job.proofs.Prepares.{frozen-none, frozen-some}
use Rattle.job.proofs.parts.frozen_in.Goals as goal

pub returns-then-freezes-eq0 : goal.returns-then-freezes-eq0
returns-then-freezes-eq0 c = frozen-none _ _ _ _ _ c.if-freezes-eq0.true

pub returns : goal.returns
returns c = c.freeze_before.ensures.1 ∙ frozen-some _ _ _ _ _ c.if-freezes-eq0.false
