-- `columns::is_frozen` meets its contract. Assumes nothing.
use Rattle.columns.specs.Parts.{is_frozen}
use Rattle.columns.proofs.is_frozen.Goals as goal

pub returns : goal.returns
unfolding is_frozen
returns c = c.holds.ensures
