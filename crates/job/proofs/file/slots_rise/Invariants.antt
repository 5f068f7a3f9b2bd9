-- `job::file::slots_rise` meets its contract. The invariant: the slots rise up to record k. Assumes nothing.
use mathlib.Core.Path.{◌≡◌}
use mathlib.Core.Bool.{true}
use Prim.Native.Nat.{◌+◌, ◌-◌, ◌≤◌}
use lib.Dec.{ltb}
use Rattle.paper.specs.Count.{all}
use Rattle.job.specs.File.{owner_slot}
use Rattle.job.proofs.file.slots_rise.Given as goal

abbrev pub invariant-loop-k : goal.invariant-loop-k
invariant-loop-k l = (all l.k (λ j. ltb (owner_slot l.s l.at j) (owner_slot l.s l.at (j + 1))) ≡ true) × (l.k ≤ l.n - 1)
