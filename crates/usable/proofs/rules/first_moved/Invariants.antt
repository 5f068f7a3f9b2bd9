-- `usable::rules::first_moved` meets its contract. Assumes nothing.
use mathlib.Core.Path.{◌≡◌}
use mathlib.Core.Bool.{true}
use Rattle.paper.specs.Count.{all}
use Rattle.usable.specs.Rules.{published_at}
use Rattle.usable.proofs.rules.first_moved.Given as goal

abbrev pub invariant-loop-k : goal.invariant-loop-k
invariant-loop-k l = all l.k (published_at l.frozen l.published l.owners) ≡ true
