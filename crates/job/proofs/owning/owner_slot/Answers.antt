-- `job::owning::owner_slot` meets its contract. Assumes nothing.
use Rattle.job.specs.File.{owner_slot}
use Rattle.job.proofs.owning.owner_slot.Goals as goal

pub returns : goal.returns
unfolding owner_slot
returns c = c.field.ensures.0
