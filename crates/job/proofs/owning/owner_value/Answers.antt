-- `job::owning::owner_value` meets its contract. Assumes nothing.
use Rattle.job.specs.Stages.{owner_value}
use Rattle.job.proofs.owning.owner_value.Goals as goal

pub returns : goal.returns
unfolding owner_value
returns c = c.field.ensures.0
