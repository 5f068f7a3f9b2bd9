-- `slots::lent::slot_fits` meets its contract. Assumes nothing.
use Rattle.slots.specs.Inside.{slot_fits}
use Rattle.slots.proofs.lent.slot_fits.Goals as goal

pub returns : goal.returns
unfolding slot_fits
returns c = c.both.ensures
