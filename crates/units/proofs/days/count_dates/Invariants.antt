-- `units::days::count_dates` meets its contract. Assumes nothing.
use Rattle.units.proofs.Covered.{Counted}
use Rattle.units.proofs.days.count_dates.Given as goal

abbrev pub invariant-loop-k : goal.invariant-loop-k
invariant-loop-k l = Counted l.slots l.starts l.ends l.k l.days l.next
