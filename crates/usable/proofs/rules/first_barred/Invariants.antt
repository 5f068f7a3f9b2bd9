-- `usable::rules::first_barred` meets its contract. Assumes nothing.
use mathlib.Core.Path.{◌≡◌}
use mathlib.Core.Bool.{true}
use Rattle.paper.specs.Count.{all}
use Rattle.usable.specs.Rules.{allowed_at}
use Rattle.usable.proofs.rules.first_barred.Given as goal

abbrev pub invariant-loop-k : goal.invariant-loop-k
invariant-loop-k l = all l.k (allowed_at l.people l.avail l.owners) ≡ true
