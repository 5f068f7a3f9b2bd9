-- `owners::derived::stretch_end` meets its contract. Assumes nothing.
use Rattle.std.proofs.Common.{◌≡◌, ℕ, ◌<◌, ◌≤◌, get_or}
use Rattle.owners.proofs.derived.stretch_end.Given as goal

abbrev pub invariant-loop-e : goal.invariant-loop-e
invariant-loop-e l = (k : ℕ) → l.i ≤ k → k < l.e → get_or l.owners k 0 ≡ get_or l.owners l.i 0
