-- `retire::figures::add_priors` meets its contract. Assumes nothing.
use mathlib.Core.Path.{◌≡◌}
use Rattle.paper.specs.Count.{over}
use Rattle.owners.specs.Derived.{plan}
use Rattle.retire.specs.Going.{prior_then}
use Rattle.retire.proofs.figures.add_priors.Given as goal

abbrev pub invariant-loop-p : goal.invariant-loop-p
invariant-loop-p l =
    l.priors ≡ over (prior_then (plan l.people l.gone l.starts l.ends) l.owners l.initial.priors l.gone) l.p l.initial.priors
