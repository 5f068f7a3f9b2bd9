-- `units::masks::strike` meets its contract. Assumes nothing.
use mathlib.Core.Path.{◌≡◌}
use native.Mathlib.Omega.{arith}
use Rattle.paper.proofs.Logic.{people-says}
use Rattle.units.proofs.Units.{units-room, unit-within}
use Rattle.slotset.proofs.Refusals.{says_row}
use Rattle.units.proofs.MaskBits.{one_bit}
use Rattle.units.proofs.Striking.{lacks-unit, gap-before, past, strike-bit, strike-unit}
use Rattle.units.proofs.masks.strike.Goals as goal

pub next_had-had-requires : goal.next_had-had-requires
next_had-had-requires c =
    let pre = c.requires in
    let R = pre.mask_room in
    let I = pre.person_lt_people.1 in (
      says_row _ _ _ _ R.counted R.short R.words pre.person_lt_people.0,
      omega (arith, I.to, unit-within _ _ _ R.right _ I.known),
    )

pub overflow_cast-bit : goal.overflow_cast-bit
overflow_cast-bit c = let pre = c.requires in omega (arith, pre.person_lt_people.0, (people-says _ pre.mask_room.counted).1)

pub overflow_shl-bit : goal.overflow_shl-bit
overflow_shl-bit c = let pre = c.requires in omega (arith, pre.person_lt_people.0, (people-says _ pre.mask_room.counted).1)

pub loop-w-init : goal.loop-w-init
loop-w-init c =
    let pre = c.requires in
    (omega arith, omega (arith, pre.person_lt_people.1.known), pre.masks_value)

pub bounds-begins-w : goal.bounds-begins-w
bounds-begins-w c = omega (arith, units-room _ _ _ c.requires.mask_room.right)

pub overflow_sub-masks : goal.overflow_sub-masks
overflow_sub-masks c =
    let pre = c.requires in
    let R = pre.mask_room in
    let h = pre.person_lt_people.0 in
    let F = c.next_had-had.ensures in
    let f = lacks-unit _ _ _ _ R.right _ _ _ _ _ pre.person_lt_people.1 pre.person_lt_people.2 F.before c.loop-w.invariant.0
    c.loop-w-test.true
    c.if-had-begins.false in
    let bit = one_bit _ _ h (people-says _ R.counted).1 in
    strike-bit _ _ _ _ _ R.right _ _ _ _ _ R.room c.loop-w.invariant.2 c.loop-w-test.true h bit f

pub loop-w-preserved : goal.loop-w-preserved
loop-w-preserved c =
    let pre = c.requires in
    let R = pre.mask_room in
    let h = pre.person_lt_people.0 in
    let F = c.next_had-had.ensures in
    let f = lacks-unit _ _ _ _ R.right _ _ _ _ _ pre.person_lt_people.1 pre.person_lt_people.2 F.before c.loop-w.invariant.0
    c.loop-w-test.true
    c.if-had-begins.false in
    let bit = one_bit _ _ h (people-says _ R.counted).1 in (
      omega (arith, c.loop-w.invariant.0),
      omega arith,
      strike-unit _ _ _ _ _ R.right _ _ _ _ _ R.room c.loop-w.invariant.2 c.loop-w-test.true h bit f,
    )

pub returns-then-had-begins : goal.returns-then-had-begins
returns-then-had-begins c =
    let pre = c.requires in
    let I = pre.person_lt_people.1 in
    let at = c.loop-w in
    let g = gap-before _ _ _ _ _ c.next_had-had.ensures (omega (arith, I.to, unit-within _ _ _ pre.mask_room.right _ I.known))
    pre.person_lt_people.2 in
    record {
      lower_bound = (past c.args.begins.now _ _ _ _ at.invariant.0 I.from g c.if-had-begins.true, at.invariant.1);
      masks_after = at.invariant.2;
    }

pub returns : goal.returns
returns c =
    let at = c.loop-w in
    let whole : at.w ≡ c.args.units = omega arith in
    record {
      lower_bound = (omega (arith, c.requires.person_lt_people.1.known), omega arith);
      masks_after = rw whole at at.invariant.2;
    }
