-- `job::owning::owners_refusal` meets its contract. Assumes nothing.
use mathlib.Core.Path.{refl}
use Rattle.paper.proofs.Rows.{link, ends, checked, renamed}
use Rattle.job.specs.Inside.{owners_row}
use Rattle.job.proofs.owning.owners_refusal.Goals as goal

pub returns : goal.returns
unfolding owners_row
returns c =
    checked _ refl c.accepted.ensures
    (link c.check_in-f.ensures
    (link (renamed _ 11 c.check.ensures c.all_known-known.ensures) ends))
