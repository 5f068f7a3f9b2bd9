-- `job::owning::all_known` meets its contract. The invariant: the first k records are right. Assumes nothing.
use mathlib.Core.Path.{◌≡◌}
use mathlib.Core.Bool.{true}
use Prim.Native.Nat.{◌≤◌}
use Rattle.paper.specs.Count.{all}
use Rattle.job.specs.Stages.{record_known}
use Rattle.job.proofs.owning.all_known.Given as goal

abbrev pub invariant-loop-k : goal.invariant-loop-k
invariant-loop-k l = (all l.k (record_known l.s l.at l.slots l.people) ≡ true) × (l.k ≤ l.n)
