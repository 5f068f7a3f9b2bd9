-- `job::owning::placed_by` meets its contract. The invariant: the first k records are placed. Assumes nothing.
use mathlib.Core.Path.{◌≡◌}
use Prim.Native.Nat.{◌≤◌}
use Rattle.job.specs.Stages.{placed}
use Rattle.job.proofs.owning.placed_by.Given as goal

abbrev pub invariant-loop-k : goal.invariant-loop-k
invariant-loop-k l = (l.out ≡ placed l.s l.at l.slots l.k) × (l.k ≤ l.n)
