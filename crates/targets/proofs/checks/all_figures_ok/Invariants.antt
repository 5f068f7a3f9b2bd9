-- `targets::checks::all_figures_ok` meets its contract: everybody passed so far has figures that pass. Assumes nothing.
use Rattle.std.proofs.Common.{◌≡◌, ◌≤◌, true, length}
use Rattle.paper.specs.Count.{all}
use Rattle.targets.specs.Figures.{figures_ok_at}
use Rattle.targets.proofs.checks.all_figures_ok.Given as goal

abbrev pub invariant-loop-i : goal.invariant-loop-i
invariant-loop-i l =
    (l.i ≤ l.people) × (l.people ≤ length l.capacities) × (all l.i (figures_ok_at l.capacities l.priors) ≡ true)
