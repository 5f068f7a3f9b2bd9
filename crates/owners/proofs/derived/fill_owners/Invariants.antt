-- `owners::derived::fill_owners` meets its contract. Assumes nothing.
use Rattle.std.proofs.Common.{◌≡◌, ◌-◌, ◌≤◌}
use Rattle.paper.specs.Count.{fill}
use Rattle.owners.proofs.derived.fill_owners.Given as goal

abbrev pub invariant-loop-k : goal.invariant-loop-k
invariant-loop-k l = (l.k - l.a ≤ l.e - l.a) × (l.owners ≡ fill l.owner l.a (l.k - l.a) l.initial.owners)
