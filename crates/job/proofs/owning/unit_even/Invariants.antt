-- `job::owning::unit_even` meets its contract. The invariant: the slots from the unit's start up to k have its owner. Assumes nothing.
use mathlib.Core.Path.{◌≡◌}
use mathlib.Core.Bool.{true}
use Prim.Native.Nat.{ℕ, ◌≤◌}
use lib.Dec.{eqb}
use lib.ListN.{get_or}
use Rattle.paper.specs.Count.{all_in}
use Rattle.job.proofs.owning.unit_even.Given as goal

abbrev pub invariant-loop-k : goal.invariant-loop-k
invariant-loop-k l = (all_in l.a l.k (λ (j : ℕ). eqb (get_or l.owners j 0) l.owner) ≡ true) × (l.a ≤ l.k)
