-- `units::lent::unit_of` meets its contract. Assumes nothing.
use mathlib.Core.Path.{◌≡◌}
use Rattle.units.specs.Units.{unit_of}
use Rattle.units.proofs.lent.unit_of.Given as goal

abbrev pub invariant-loop-u : goal.invariant-loop-u
invariant-loop-u l = unit_of l.units l.begins l.slot ≡ unit_of l.u l.begins l.slot
