-- `retire::going::start_from` meets its contract. Assumes nothing.
use mathlib.Core.Path.{◌∙◌}
use borrow.Author.Tests.{lt-ltb, le-ltb}
use Rattle.retire.specs.Going.{start_from}
use Rattle.retire.proofs.going.start_from.Goals as goal

pub returns-then-unit-units : goal.returns-then-unit-units
unfolding start_from
returns-then-unit-units c = c.start_of.ensures ∙ simp (lt-ltb _ _ c.if-unit-units.true)

pub returns-else-unit-units : goal.returns-else-unit-units
unfolding start_from
returns-else-unit-units c = simp (le-ltb _ _ c.if-unit-units.false)
