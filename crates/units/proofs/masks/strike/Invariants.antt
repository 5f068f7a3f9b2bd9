-- `units::masks::strike` meets its contract. Assumes nothing.
use mathlib.Core.Path.{◌≡◌}
use Prim.Native.Nat.{◌≤◌}
use Rattle.paper.specs.Count.{over}
use Rattle.units.specs.Inside.{mask_then}
use Rattle.units.proofs.masks.strike.Given as goal

abbrev pub invariant-loop-w : goal.invariant-loop-w
invariant-loop-w l =
    (l.v ≤ l.w) × (l.w ≤ l.units)
    × (l.masks ≡ over (mask_then l.avail l.people l.slots l.units l.begins l.person l.w) l.units l.initial.masks)
