-- `job::run::read_refusal` meets its contract. Assumes nothing.
use mathlib.Core.Path.{refl}
use Rattle.paper.proofs.Rows.{link, ends, checked, renamed}
use Rattle.job.specs.Outcome.{read_row}
use Rattle.job.proofs.run.read_refusal.Goals as goal

pub returns : goal.returns
unfolding read_row
returns c =
    checked _ refl c.accepted.ensures
    (link c.check-f.ensures (link (renamed _ 1 c.check-f-2.ensures c.counts_ok-few.ensures)
    (link c.check.ensures ends)))
