-- `retire::asking::check_ranges` meets its contract. Assumes nothing.
use Rattle.paper.proofs.Rows.{skipped, renamed}
use Rattle.retire.proofs.asking.check_ranges.Goals as goal

pub returns : goal.returns
returns c = renamed _ 4 c.check.ensures c.ranges_ok.ensures

pub returns-then-before-ne0 : goal.returns-then-before-ne0
returns-then-before-ne0 c = skipped _ _ c.if-before-ne0.true
