-- `wayback::search::first_in_way` meets its contract. Assumes nothing.
use mathlib.Core.Path.{◌≡◌}
use mathlib.Core.Bool.{true, not}
use Rattle.paper.specs.Count.{all}
use Rattle.wayback.specs.Inside.{stands_in_way}
use Rattle.wayback.proofs.search.first_in_way.Given as goal

abbrev pub invariant-loop-u : goal.invariant-loop-u
invariant-loop-u l =
    all l.u (λ v. not (stands_in_way l.slots l.units l.begins l.frozen l.remembered l.owners v)) ≡ true
