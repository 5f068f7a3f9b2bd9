-- `owners::scan::is_even` meets its contract. Assumes nothing.
use Rattle.std.proofs.Common.{◌≡◌, ◌-◌, ◌≤◌, true, eqb, get_or}
use Rattle.paper.specs.Count.{all_in}
use Rattle.owners.proofs.scan.is_even.Given as goal

abbrev pub invariant-loop-k : goal.invariant-loop-k
invariant-loop-k l = (l.k - l.a ≤ l.e - l.a) × (all_in l.a l.k (λ j. eqb (get_or l.owners j 0) l.owner) ≡ true)
