-- `stored_slotset::record_answers` meets its contract: it is safe and ends. Assumes nothing.
use Prim.Native.Nat.{◌≤◌, ◌-◌}
use Rattle.stored_slotset.proofs.record_answers.Given as goal

abbrev pub invariant-loop-k : goal.invariant-loop-k
invariant-loop-k l = l.k ≤ 8

abbrev pub decreases-loop-k : goal.decreases-loop-k
decreases-loop-k l = 8 - l.k
