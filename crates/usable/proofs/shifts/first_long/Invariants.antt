-- `usable::shifts::first_long` meets its contract. Assumes nothing.
use mathlib.Core.Path.{◌≡◌}
use Prim.Native.Nat.{◌<◌}
use lib.ListN.{get_or}
use Rattle.usable.specs.Rules.{shift_last, capped_at}
use Rattle.usable.proofs.Walks.{IsFault}
use Rattle.usable.proofs.shifts.first_long.Given as goal

abbrev pub invariant-loop-k : goal.invariant-loop-k
invariant-loop-k l =
    IsFault (capped_at l.slots l.cap l.starts l.ends l.owners) l.k l.slots l.found
    × (l.k < l.slots → l.end ≡ get_or l.ends (shift_last l.slots l.owners l.k) 0)
