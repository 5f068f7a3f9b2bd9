-- `slotset::scan::skip_up` meets its contract. The invariant: every word so far is x. Assumes nothing.
use mathlib.Core.Path.{◌≡◌}
use Prim.Native.Nat.{ℕ, ◌+◌, ◌≤◌, ◌<◌}
use lib.ListN.{get_or}
use Rattle.slotset.proofs.scan.skip_up.Given as goal

abbrev pub invariant-loop-j : goal.invariant-loop-j
invariant-loop-j l = (k : ℕ) → l.first ≤ k → k < l.j → get_or l.words (l.base + k) 0 ≡ l.x
