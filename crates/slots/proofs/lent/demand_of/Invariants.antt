-- `slots::lent::demand_of` meets its contract. Assumes nothing.
use mathlib.Core.Path.{◌≡◌}
use Rattle.paper.specs.Count.{sum}
use Rattle.slots.specs.Lent.{minutes_at}
use Rattle.slots.proofs.lent.demand_of.Given as goal

abbrev pub invariant-loop-i : goal.invariant-loop-i
invariant-loop-i l = l.total ≡ sum l.i (minutes_at l.starts l.ends)
