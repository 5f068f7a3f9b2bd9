-- `owners::scan::find_unknown` meets its contract. Assumes nothing.
use Rattle.std.proofs.Common.{◌≡◌, true}
use Rattle.paper.specs.Count.{all}
use Rattle.owners.specs.Recount.{known_at}
use Rattle.owners.proofs.scan.find_unknown.Given as goal

abbrev pub invariant-loop-k : goal.invariant-loop-k
invariant-loop-k l = all l.k (known_at l.people l.owners) ≡ true
