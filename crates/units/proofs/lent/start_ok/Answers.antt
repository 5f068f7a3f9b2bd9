-- `units::lent::start_ok` meets its contract. Assumes nothing.
use mathlib.Core.Path.{sym}
use Rattle.units.proofs.Units.{rises-first, rises-later, start-past, start-within}
use Rattle.units.proofs.lent.start_ok.Goals as goal

pub returns-then-slots-first : goal.returns-then-slots-first
returns-then-slots-first c = sym (start-past _ _ _ c.if-slots-first.true)

pub returns-then-u-eq0 : goal.returns-then-u-eq0
returns-then-u-eq0 c = sym (start-within _ _ _ _ c.if-slots-first.false (rises-first _ _ c.if-u-eq0.true))

pub returns : goal.returns
returns c = sym (start-within _ _ _ _ c.if-slots-first.false (rises-later _ _ c.if-u-eq0.false))
