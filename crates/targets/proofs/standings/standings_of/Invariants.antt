-- `targets::standings::standings_of` meets its contract: the standings of the people passed stand in front, and the rest takes no part.
-- Assumes nothing.
use Rattle.std.proofs.Common.{◌≡◌, ◌-◌, ◌≤◌, ◌++◌, replicate}
use Rattle.targets.specs.Figures.{up_to, pad}
use Rattle.targets.specs.Outcome.{given, standing_in}
use Rattle.targets.proofs.standings.standings_of.Given as goal

abbrev pub invariant-loop-i : goal.invariant-loop-i
invariant-loop-i l =
    (l.i ≤ l.people)
    × (l.out
    ≡ up_to (standing_in (given l.people l.slots l.starts l.ends l.avail l.capacities l.priors l.fairness 0)) l.i
    ++ replicate (32 - l.i) pad)
