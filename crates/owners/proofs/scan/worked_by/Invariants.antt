-- `owners::scan::worked_by` meets its contract. Assumes nothing.
use Rattle.std.proofs.Common.{◌≡◌, get_or}
use Rattle.paper.specs.Count.{sum}
use Rattle.slots.specs.Lent.{minutes_at}
use Rattle.owners.specs.Derived.{portion}
use Rattle.owners.proofs.scan.worked_by.Given as goal

abbrev pub invariant-loop-k : goal.invariant-loop-k
invariant-loop-k l =
    l.total ≡ sum l.k (λ j. portion (get_or l.owners j 0) l.person (minutes_at l.starts l.ends j))
