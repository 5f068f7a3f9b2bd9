-- `job::listing::put_people` meets its contract. The invariant: the lines of the first k people are written. Assumes nothing.
use Prim.Native.Nat.{◌≤◌}
use Rattle.job.specs.Listing.{person_at}
use Rattle.job.proofs.Texts.{Going}
use Rattle.job.proofs.listing.put_people.Given as goal

abbrev pub invariant-loop-k : goal.invariant-loop-k
invariant-loop-k l = Going (person_at l.minutes l.targets) l.at l.initial.out l.k l.next l.out × (l.k ≤ l.n)
