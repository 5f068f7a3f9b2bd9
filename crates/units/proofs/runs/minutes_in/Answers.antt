-- `units::runs::minutes_in` meets its contract. Assumes nothing.
use mathlib.Core.Path.{refl, sym}
use native.Mathlib.Omega.{arith}
use Rattle.paper.proofs.Count.{sum-in-none}
use Rattle.slots.specs.Lent.{minutes_at}
use Rattle.slots.proofs.LentLaws.{slots-sound}
use Rattle.units.proofs.Reach.{part-more, part-more-fits, part-done}
use Rattle.units.proofs.runs.minutes_in.Goals as goal

pub loop-k-init : goal.loop-k-init
loop-k-init c = (omega arith, omega (arith, c.requires.1), sym (sum-in-none _ _))

pub offset_bounds-ends-k : goal.offset_bounds-ends-k
offset_bounds-ends-k c = omega (arith, (slots-sound _ _ _ c.requires.0).ends-room)

pub bounds-ends-k : goal.bounds-ends-k
bounds-ends-k c = omega (arith, (slots-sound _ _ _ c.requires.0).ends-room)

pub offset_bounds-starts-k : goal.offset_bounds-starts-k
offset_bounds-starts-k c = omega (arith, (slots-sound _ _ _ c.requires.0).starts-room)

pub bounds-starts-k : goal.bounds-starts-k
bounds-starts-k c = omega (arith, (slots-sound _ _ _ c.requires.0).starts-room)

pub overflow_sub-total : goal.overflow_sub-total
overflow_sub-total c =
    let pre = c.requires in
    omega (arith, (slots-sound _ _ _ pre.0).ordered c.loop-k.k (omega (arith, pre.2)))

pub overflow_add-total : goal.overflow_add-total
unfolding minutes_at
overflow_add-total c =
    let pre = c.requires in
    let inv = c.loop-k.invariant in
    omega (arith, part-more-fits _ _ _ pre.0 _ _ _ _ inv.0 (omega (arith, pre.2)) inv.2 refl)

pub loop-k-preserved : goal.loop-k-preserved
unfolding minutes_at
loop-k-preserved c =
    let pre = c.requires in
    let inv = c.loop-k.invariant in
    (omega arith, omega arith, part-more _ _ _ pre.0 _ _ _ _ inv.0 inv.2 refl)

pub returns : goal.returns
returns c =
    let inv = c.loop-k.invariant in
    part-done _ _ _ c.requires.0 _ _ _ _ inv.1 c.loop-k-test.false inv.2
