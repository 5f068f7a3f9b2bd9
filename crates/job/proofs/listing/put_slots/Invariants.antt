-- `job::listing::put_slots` meets its contract. The invariant: the lines of the first k slots are written. Assumes nothing.
use Prim.Native.Nat.{◌≤◌}
use Rattle.job.specs.Listing.{slot_at}
use Rattle.job.proofs.Texts.{Going}
use Rattle.job.proofs.listing.put_slots.Given as goal

abbrev pub invariant-loop-k : goal.invariant-loop-k
invariant-loop-k l = Going (slot_at l.starts l.ends l.owners) l.at l.initial.out l.k l.next l.out × (l.k ≤ l.n)
