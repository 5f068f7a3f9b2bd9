-- `job::owning::entry16` meets its contract. Assumes nothing.
use mathlib.Core.Path.{sym}
use lib.ListN.{get_or-eq_default}
use Rattle.job.proofs.owning.entry16.Goals as goal

pub returns : goal.returns
returns c = sym (get_or-eq_default c.args.column.now 0 c.if-k-column.false)
