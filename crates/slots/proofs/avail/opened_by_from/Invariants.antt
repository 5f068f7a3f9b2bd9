-- `slots::avail::opened_by_from` meets its contract. Assumes nothing.
use Prim.Native.Nat.{ℕ, ◌≤◌, ◌<◌}
use lib.ListN.{get_or}
use Rattle.slots.specs.Inside.{opens}
use Rattle.slots.proofs.avail.opened_by_from.Given as goal

abbrev pub invariant-loop-r : goal.invariant-loop-r
invariant-loop-r l = (k : ℕ) → k < l.r → opens (get_or l.keys k 0) ≤ l.place
