-- `retire::figures::priors_ok` meets its contract. Assumes nothing.
use mathlib.Core.Path.{◌≡◌}
use mathlib.Core.Bool.{true}
use lib.Dec.{leb}
use Rattle.paper.specs.Limits.{last_minute}
use Rattle.paper.specs.Count.{all}
use Rattle.retire.specs.Rolled.{entry}
use Rattle.retire.proofs.figures.priors_ok.Given as goal

abbrev pub invariant-loop-p : goal.invariant-loop-p
invariant-loop-p l = all l.p (λ q. leb (entry l.priors q) last_minute) ≡ true
