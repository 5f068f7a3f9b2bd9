-- `job::parts::instant_in` meets its contract. Assumes nothing.
use mathlib.Core.Path.{◌∙◌}
use native.Mathlib.Omega.{arith}
use Rattle.job.proofs.Prepares.{when-none, when-some}
use Rattle.job.proofs.parts.instant_in.Goals as goal

pub returns-then-freezes-eq0 : goal.returns-then-freezes-eq0
returns-then-freezes-eq0 c = when-none _ _ _ c.if-freezes-eq0.true

pub overflow_add-at : goal.overflow_add-at
overflow_add-at c = omega (arith, c.requires c.if-freezes-eq0.false)

pub field-requires : goal.field-requires
field-requires c = omega (arith, c.requires c.if-freezes-eq0.false)

pub overflow_cast-result : goal.overflow_cast-result
overflow_cast-result c = omega (arith, c.field.ensures.1)

pub returns : goal.returns
returns c = c.field.ensures.0 ∙ when-some _ _ _ c.if-freezes-eq0.false
