-- `retire::going::is_frozen` meets its contract. Assumes nothing.
use Rattle.retire.specs.Going.{is_frozen}
use Rattle.retire.proofs.going.is_frozen.Goals as goal

pub returns : goal.returns
unfolding is_frozen
returns c = c.holds.ensures
