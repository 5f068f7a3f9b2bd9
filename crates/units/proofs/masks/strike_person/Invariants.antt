-- `units::masks::strike_person` meets its contract. Assumes nothing.
use mathlib.Core.Path.{◌≡◌}
use Prim.Native.Nat.{◌-◌, ◌≤◌}
use Rattle.paper.specs.Count.{over}
use Rattle.units.specs.Inside.{mask_then}
use Rattle.units.proofs.masks.strike_person.Given as goal

abbrev pub invariant-loop-u : goal.invariant-loop-u
invariant-loop-u l =
    (l.u ≤ l.units) × (l.masks ≡ over (mask_then l.avail l.people l.slots l.units l.begins l.person l.u) l.units l.initial.masks)

abbrev pub decreases-loop-u : goal.decreases-loop-u
decreases-loop-u l = l.units - l.u
