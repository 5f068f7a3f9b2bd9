-- `owners::scan::first_unavailable` meets its contract. Assumes nothing.
use Rattle.std.proofs.Common.{◌≡◌, true}
use Rattle.paper.specs.Count.{all}
use Rattle.owners.specs.Recount.{available_at}
use Rattle.owners.proofs.scan.first_unavailable.Given as goal

abbrev pub invariant-loop-k : goal.invariant-loop-k
invariant-loop-k l = all l.k (available_at l.avail l.owners) ≡ true
