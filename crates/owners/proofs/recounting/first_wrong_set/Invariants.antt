-- `owners::recounting::first_wrong_set` meets its contract. The invariant: the first `low` people's sets are right,
-- the first `high` people's are not. Assumes nothing.
use Rattle.std.proofs.Common.{◌≡◌, ◌-◌, ◌<◌, ◌≤◌, true, false}
use Rattle.slotset.specs.Answers.{same_sets}
use Rattle.owners.proofs.recounting.first_wrong_set.Given as goal

abbrev pub invariant-loop-low : goal.invariant-loop-low
invariant-loop-low l =
    (l.low < l.high) × (l.high ≤ l.people)
    × (same_sets l.sets l.right l.low l.slots ≡ true) × (same_sets l.sets l.right l.high l.slots ≡ false)

abbrev pub decreases-loop-low : goal.decreases-loop-low
decreases-loop-low l = l.high - l.low
