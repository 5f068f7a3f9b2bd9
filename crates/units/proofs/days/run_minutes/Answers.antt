-- `units::days::run_minutes` meets its contract. Assumes nothing.
use Rattle.units.proofs.Covered.{run-one, run_more}
use Rattle.units.proofs.days.run_minutes.Goals as goal

pub returns-then-days-eq0 : goal.returns-then-days-eq0
returns-then-days-eq0 c = run-one _ _ _ _ _ c.day_minutes-minutes.ensures.0 c.if-days-eq0.true

pub returns : goal.returns
returns c = run_more _ _ _ _ _ c.day_minutes-minutes.ensures.0 c.if-days-eq0.false
