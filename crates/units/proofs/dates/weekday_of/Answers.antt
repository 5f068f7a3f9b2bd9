-- `units::dates::weekday_of` meets its contract. Assumes nothing.
use native.Mathlib.Omega.{arith}
use Rattle.units.specs.Dates.{weekday_of}
use Rattle.units.proofs.dates.weekday_of.Goals as goal

pub returns : goal.returns
unfolding weekday_of
returns c = omega arith
