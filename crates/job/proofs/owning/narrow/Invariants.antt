-- `job::owning::narrow` meets its contract. The invariant: the first k owners are bytes. Assumes nothing.
use mathlib.Core.Path.{◌≡◌}
use Prim.Native.Nat.{ℕ, ◌≤◌}
use lib.ListN.{get_or, replicate}
use Rattle.paper.specs.Count.{over}
use Rattle.job.specs.Stages.{byte_of}
use Rattle.job.proofs.owning.narrow.Given as goal

abbrev pub invariant-loop-k : goal.invariant-loop-k
invariant-loop-k l = (l.out ≡ over (λ (j : ℕ). byte_of (get_or l.owners j 0)) l.k (replicate 1024 0)) × (l.k ≤ 1024)
