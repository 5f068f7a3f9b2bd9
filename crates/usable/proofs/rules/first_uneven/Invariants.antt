-- `usable::rules::first_uneven` meets its contract. Assumes nothing.
use mathlib.Core.Path.{◌≡◌}
use mathlib.Core.Bool.{true}
use Rattle.paper.specs.Count.{all}
use Rattle.usable.specs.Rules.{uniform_at}
use Rattle.usable.specs.Inside.{ByUnit}
use Rattle.usable.proofs.rules.first_uneven.Given as goal

abbrev pub invariant-loop-k : goal.invariant-loop-k
invariant-loop-k l =
    ByUnit l.slots l.units l.begins l.u l.k × (all l.k (uniform_at l.units l.begins l.owners) ≡ true)
