-- `units::runs::minutes_in` meets its contract. Assumes nothing.
use mathlib.Core.Path.{◌≡◌}
use Prim.Native.Nat.{◌≤◌}
use Rattle.paper.specs.Count.{sum_in}
use Rattle.slots.specs.Lent.{minutes_at}
use Rattle.units.proofs.runs.minutes_in.Given as goal

abbrev pub invariant-loop-k : goal.invariant-loop-k
invariant-loop-k l = (l.a ≤ l.k) × (l.k ≤ l.e) × (l.total ≡ sum_in l.a l.k (minutes_at l.starts l.ends))
