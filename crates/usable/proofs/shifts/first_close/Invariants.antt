-- `usable::shifts::first_close` meets its contract. Assumes nothing.
use mathlib.Core.Path.{◌≡◌}
use mathlib.Core.Bool.{true}
use Prim.Native.Nat.{ℕ, ◌<◌}
use lib.ListN.{get_or, length}
use Rattle.paper.specs.Count.{all}
use Rattle.usable.specs.Rules.{rested_at}
use Rattle.usable.specs.Inside.{free_from}
use Rattle.usable.proofs.shifts.first_close.Given as goal

abbrev pub invariant-loop-k : goal.invariant-loop-k
invariant-loop-k l =
    ((w : ℕ) → w < 256 → get_or l.free w 0 ≡ free_from l.rest l.ends l.owners l.k w)
    × (all l.k (rested_at l.slots l.rest l.starts l.ends l.owners) ≡ true) × (length l.free ≡ 256)
