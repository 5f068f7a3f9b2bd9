-- `units::masks::write_masks` meets its contract. Assumes nothing.
use mathlib.Core.Path.{◌≡◌}
use Prim.Native.Nat.{◌≤◌}
use Rattle.paper.specs.Count.{over}
use Rattle.units.specs.Inside.{mask_then}
use Rattle.units.proofs.masks.write_masks.Given as goal

abbrev pub invariant-loop-p : goal.invariant-loop-p
invariant-loop-p l =
    (l.p ≤ l.people) × (l.masks ≡ over (mask_then l.avail l.people l.slots l.units l.begins l.p 0) l.units l.initial.masks)
