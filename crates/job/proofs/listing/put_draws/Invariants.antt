-- `job::listing::put_draws` meets its contract. The invariant: the lines of the first k draws are written. Assumes nothing.
use Prim.Native.Nat.{◌≤◌}
use Rattle.job.specs.Listing.{draw_at}
use Rattle.job.proofs.Texts.{Going}
use Rattle.job.proofs.listing.put_draws.Given as goal

abbrev pub invariant-loop-k : goal.invariant-loop-k
invariant-loop-k l = Going (draw_at l.answers) l.at l.initial.out l.k l.next l.out × (l.k ≤ l.n)
