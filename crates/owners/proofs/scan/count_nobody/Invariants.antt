-- `owners::scan::count_nobody` meets its contract. Assumes nothing.
use Rattle.std.proofs.Common.{◌≡◌}
use Rattle.owners.specs.Derived.{unassigned}
use Rattle.owners.proofs.scan.count_nobody.Given as goal

abbrev pub invariant-loop-k : goal.invariant-loop-k
invariant-loop-k l = l.n ≡ unassigned l.k l.owners
