-- `units::lent::units_ok` meets its contract. Assumes nothing.
use mathlib.Core.Path.{◌≡◌}
use mathlib.Core.Bool.{true}
use Prim.Native.Nat.{◌≤◌}
use lib.ListN.{length}
use Rattle.paper.specs.Count.{all}
use Rattle.units.specs.Units.{start_ok}
use Rattle.units.proofs.lent.units_ok.Given as goal

abbrev pub invariant-loop-u : goal.invariant-loop-u
invariant-loop-u l = (l.u ≤ l.units) × (all l.u (start_ok l.slots l.begins) ≡ true) × (1 ≤ l.units) × (l.units ≤ length l.begins)
