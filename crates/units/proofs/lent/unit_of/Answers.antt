-- `units::lent::unit_of` meets its contract. Assumes nothing.
use mathlib.Core.Path.{sym, ◌∙◌}
use Rattle.units.proofs.Units.{of-here, of-before, of_none}
use Rattle.units.proofs.lent.unit_of.Goals as goal

pub loop-u-preserved : goal.loop-u-preserved
loop-u-preserved c = c.loop-u.invariant ∙ of-before _ _ _ _ c.loop-u-test.true c.start_of.ensures c.if-start_of-slot.false

pub returns-then-start_of-slot : goal.returns-then-start_of-slot
returns-then-start_of-slot c =
    sym (c.loop-u.invariant ∙ of-here _ _ _ _ c.loop-u-test.true c.start_of.ensures c.if-start_of-slot.true)

pub returns : goal.returns
returns c = sym (c.loop-u.invariant ∙ of_none _ _ _ c.loop-u-test.false)
