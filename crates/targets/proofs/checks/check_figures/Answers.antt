-- `targets::checks::check_figures` meets its contract. Assumes nothing.
use Rattle.paper.proofs.Rows.{skipped}
use Rattle.targets.proofs.checks.check_figures.Goals as goal

pub returns : goal.returns
returns c = skipped _ _ c.if-before-eq0.false
