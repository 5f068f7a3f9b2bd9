-- `slots::lent::slots_ok` meets its contract. Assumes nothing.
use mathlib.Core.Path.{◌≡◌}
use Prim.Native.Nat.{◌≤◌}
use lib.ListN.{length}
use Rattle.paper.specs.Count.{all}
use Rattle.slots.specs.Lent.{prev_end}
use Rattle.slots.specs.Inside.{slot_fits_at}
use Rattle.slots.proofs.lent.slots_ok.Given as goal

abbrev pub invariant-loop-i : goal.invariant-loop-i
invariant-loop-i l =
    (l.slots ≤ length l.starts) × (l.slots ≤ length l.ends)
    × (l.ok ≡ all l.i (slot_fits_at l.starts l.ends)) × (l.prev ≡ prev_end l.ends l.i)
