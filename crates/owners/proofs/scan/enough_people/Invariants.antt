-- `owners::scan::enough_people` meets its contract. Assumes nothing.
use Rattle.std.proofs.Common.{◌≡◌, ℕ, ◌<◌, true, get_or}
use Rattle.owners.specs.Derived.{known_by}
use Rattle.owners.proofs.scan.enough_people.Given as goal

abbrev pub invariant-loop-k : goal.invariant-loop-k
invariant-loop-k l = (j : ℕ) → j < l.k → known_by l.most (get_or l.owners j 0) ≡ true
