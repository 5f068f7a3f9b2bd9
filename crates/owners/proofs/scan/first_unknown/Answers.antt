-- `owners::scan::first_unknown` meets its contract. Assumes nothing.
use Rattle.std.proofs.Common.{sym}
use Rattle.owners.proofs.Scans.{fails-none}
use Rattle.owners.proofs.scan.first_unknown.Goals as goal

pub returns-then-all_known : goal.returns-then-all_known
returns-then-all_known c = sym (fails-none _ _ (c.all_known.ensures c.if-all_known.true))
