-- `job::shown::see_targets` meets its contract. Assumes nothing.
use Prim.Native.Nat.{ℕ, ◌^◌, ◌≤◌, ◌<◌}
use lib.IntN.{pos}
use lib.Signed.{mag}
use lib.ListN.{get_or}
use Rattle.job.proofs.shown.see_targets.Given as goal

abbrev pub invariant-loop-p : goal.invariant-loop-p
invariant-loop-p l = ((i : ℕ) → i < l.p → mag (get_or l.targets i (pos 0)) < 2 ^ 63) × (l.p ≤ l.people)
