-- `retire::figures::minutes_gone` meets its contract. Assumes nothing.
use mathlib.Core.Path.{◌≡◌}
use Prim.Native.Nat.{◌*◌, ◌≤◌}
use lib.ListN.{get_or}
use Rattle.paper.specs.Count.{sum}
use Rattle.slots.specs.Lent.{minutes_at}
use Rattle.owners.specs.Derived.{portion}
use Rattle.retire.proofs.figures.minutes_gone.Given as goal

abbrev pub invariant-loop-k : goal.invariant-loop-k
invariant-loop-k l =
    (l.total ≤ l.k * 4294967295) × (l.total ≡ sum l.k (λ j. portion (get_or l.owners j 0) l.person (minutes_at l.starts l.ends j)))
