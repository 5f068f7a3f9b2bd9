-- `job::shown::block_refusal` meets its contract. Assumes nothing.
use mathlib.Core.Path.{refl}
use Rattle.paper.proofs.Rows.{link, ends, checked}
use Rattle.job.specs.Shown.{block_row}
use Rattle.job.proofs.shown.block_refusal.Goals as goal

pub returns : goal.returns
unfolding block_row
returns c =
    checked _ refl c.accepted.ensures
    (link c.check_people-f.ensures (link c.check_slots-f.ensures
    (link c.check-f.ensures (link c.check-f-2.ensures (link c.check-f-3.ensures
    (link c.check-f-4.ensures (link c.check-f-5.ensures (link c.check.ensures ends))))))))
