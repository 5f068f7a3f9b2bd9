-- `units::starts::unit_starts` meets its contract. Assumes nothing.
use Rattle.units.specs.Inside.{starts_under_is}
use Rattle.units.specs.Starts.{unit_starts, unit_starts_is}
use Rattle.units.proofs.starts.unit_starts.Goals as goal

pub returns : goal.returns
unfolding unit_starts_is unit_starts starts_under_is
returns c = c.starts_under.ensures
