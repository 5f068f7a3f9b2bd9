-- `units::masks::unit_from` meets its contract. Assumes nothing.
use Prim.Native.Nat.{◌≤◌, ◌<◌}
use Rattle.units.specs.Units.{unit_start}
use Rattle.units.proofs.masks.unit_from.Given as goal

abbrev pub invariant-loop-v : goal.invariant-loop-v
invariant-loop-v l = (l.v < l.units) × (unit_start l.begins l.v ≤ l.slot)
