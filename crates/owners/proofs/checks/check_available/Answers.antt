-- `owners::checks::check_available` meets its contract. Assumes nothing.
use Rattle.paper.proofs.Rows.{renamed, skipped}
use Rattle.owners.proofs.Scans.{scan-test}
use Rattle.owners.proofs.checks.check_available.Goals as goal

pub returns-then-before-eq0 : goal.returns-then-before-eq0
returns-then-before-eq0 c = renamed _ _ c.check.ensures (scan-test _ _ _ c.first_unavailable.ensures)

pub returns : goal.returns
returns c = skipped _ _ c.if-before-eq0.false
