-- `targets::standings::available_minutes` meets its contract: the total is that of the slots passed. Assumes nothing.
use Rattle.std.proofs.Common.{◌≡◌, ◌≤◌}
use Rattle.paper.specs.Count.{sum}
use Rattle.targets.specs.Figures.{minutes_if_available}
use Rattle.targets.proofs.standings.available_minutes.Given as goal

abbrev pub invariant-loop-k : goal.invariant-loop-k
invariant-loop-k l =
    (l.k ≤ l.slots) × (l.total ≡ sum l.k (minutes_if_available l.starts l.ends l.avail l.person))
