-- `retire::figures::priors_then_ok` meets its contract. Assumes nothing.
use mathlib.Core.Path.{◌≡◌}
use mathlib.Core.Bool.{true}
use lib.Dec.{leb}
use Rattle.paper.specs.Limits.{last_minute}
use Rattle.paper.specs.Count.{all}
use Rattle.owners.specs.Derived.{plan}
use Rattle.retire.specs.Going.{prior_then}
use Rattle.retire.proofs.figures.priors_then_ok.Given as goal

abbrev pub invariant-loop-p : goal.invariant-loop-p
invariant-loop-p l =
    all l.p (λ q. leb (prior_then (plan l.people l.gone l.starts l.ends) l.owners l.priors l.gone q) last_minute) ≡ true
