-- `retire::going::all_frozen` meets its contract. Assumes nothing.
use mathlib.Core.Path.{◌≡◌}
use mathlib.Core.Bool.{true}
use Prim.Native.Nat.{◌-◌, ◌≤◌}
use Rattle.paper.specs.Count.{all_in}
use Rattle.retire.specs.Going.{is_frozen}
use Rattle.retire.proofs.going.all_frozen.Given as goal

abbrev pub invariant-loop-k : goal.invariant-loop-k
invariant-loop-k l = (l.k - l.a ≤ l.e - l.a) × (all_in l.a l.k (is_frozen l.frozen) ≡ true)
