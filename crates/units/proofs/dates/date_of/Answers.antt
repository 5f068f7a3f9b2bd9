-- `units::dates::date_of` meets its contract. Assumes nothing.
use mathlib.Core.Path.{refl}
use Rattle.units.specs.Dates.{date_of}
use Rattle.units.proofs.dates.date_of.Goals as goal

pub returns : goal.returns
unfolding date_of
returns c = refl
