-- `slotset::scan::skip_down` meets its contract. The invariant: every word from j on is x. Assumes nothing.
use mathlib.Core.Path.{◌≡◌}
use Prim.Native.Nat.{ℕ, ◌+◌, ◌≤◌, ◌<◌}
use lib.ListN.{get_or}
use Rattle.slotset.proofs.scan.skip_down.Given as goal

abbrev pub invariant-loop-j : goal.invariant-loop-j
invariant-loop-j l = (k : ℕ) → l.j ≤ k → k < l.before → get_or l.words (l.base + k) 0 ≡ l.x
