-- `units::masks::unit_from` meets its contract. Assumes nothing.
use mathlib.Core.Path.{◌≡◌, subst}
use Prim.Native.Nat.{ℕ, ◌-◌, ◌≤◌}
use native.Mathlib.Omega.{arith}
use Rattle.units.specs.Units.{unit_start}
use Rattle.units.proofs.Units.{units-room, ends_next, ends_last}
use Rattle.units.proofs.masks.unit_from.Goals as goal

pub loop-v-init : goal.loop-v-init
loop-v-init c = (c.requires.1, c.requires.2)

pub offset_bounds-begins-v : goal.offset_bounds-begins-v
offset_bounds-begins-v c = omega (arith, units-room _ _ _ c.requires.0)

pub bounds-begins-v : goal.bounds-begins-v
bounds-begins-v c = omega (arith, units-room _ _ _ c.requires.0)

pub loop-v-preserved : goal.loop-v-preserved
loop-v-preserved c = (omega arith, c.if-slot-begins.false)

pub returns-then-slot-begins : goal.returns-then-slot-begins
returns-then-slot-begins c =
    let at = c.loop-v.invariant in
    let e = ends_next _ _ _ c.requires.0 c.loop-v.v (omega arith) in
    (record { known = at.0; from = at.1; to = omega (arith, e, c.if-slot-begins.true) }, omega arith)

pub returns : goal.returns
returns c =
    let at = c.loop-v.invariant in
    let last : c.loop-v.v ≡ c.args.units - 1 = omega arith in
    let e = ends_last _ _ _ c.requires.0 (c.args.units - 1) (omega arith) in
    let from = subst (λ (v : ℕ). unit_start c.args.begins.now v ≤ c.args.slot) last at.1 in
    (record { known = omega arith; from = from; to = omega (arith, e) }, omega arith)
