-- `units::runs::longest_run` meets its contract. Assumes nothing.
use Prim.Native.Nat.{◌-◌}
use Rattle.slots.specs.Lent.{minutes_at}
use Rattle.units.specs.Domains.{available}
use Rattle.units.proofs.Reach.{Passing}
use Rattle.units.proofs.runs.longest_run.Given as goal

abbrev pub invariant-loop-at : goal.invariant-loop-at
invariant-loop-at l =
    Passing (available l.avail l.person) (minutes_at l.starts l.ends) l.target l.slots l.best l.at

abbrev pub decreases-loop-at : goal.decreases-loop-at
decreases-loop-at l = l.slots - l.at
