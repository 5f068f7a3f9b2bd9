-- `units::masks::strike_person` meets its contract. Assumes nothing.
use mathlib.Core.Path.{◌∙◌}
use native.Mathlib.Omega.{arith}
use Rattle.units.proofs.Units.{units-room, starts-below}
use Rattle.slotset.proofs.Refusals.{says_row}
use Rattle.units.proofs.Striking.{strikes-next, strikes-held, strikes-again, room-kept, skip-to-gap, skip-rest}
use Rattle.units.proofs.masks.strike_person.Goals as goal

pub loop-u-init : goal.loop-u-init
loop-u-init c = (omega arith, c.requires.masks_value)

pub bounds-begins-u : goal.bounds-begins-u
bounds-begins-u c = omega (arith, units-room _ _ _ c.requires.mask_room.right)

pub next_gap-gap-requires : goal.next_gap-gap-requires
next_gap-gap-requires c =
    let pre = c.requires in
    let R = pre.mask_room in (
      says_row _ _ _ _ R.counted R.short R.words pre.person_lt_people,
      omega (arith, starts-below _ _ _ R.right _ c.loop-u-test.true),
    )

pub unit_from-v-requires : goal.unit_from-v-requires
unit_from-v-requires c = (
  c.requires.mask_room.right,
  c.loop-u-test.true,
  c.next_gap-gap.ensures.from,
  c.if-gap-slots.true,
)

pub strike-u-requires : goal.strike-u-requires
strike-u-requires c =
    let pre = c.requires in
    let at = c.loop-u in
    let G = c.next_gap-gap.ensures in
    let U = c.unit_from-v.ensures in
    let skip = skip-to-gap _ _ _ _ _ pre.mask_room.right _ _ _ _ G.before _ U.1 U.0 in
    record {
      mask_room = room-kept _ _ _ _ _ _ _ _ _ at.invariant.1 pre.mask_room;
      person_lt_people = (pre.person_lt_people, U.0, G.here c.if-gap-slots.true);
      masks_value = strikes-held _ _ _ _ _ _ _ _ _ _ at.invariant.1 skip;
    }

pub loop-u-smaller : goal.loop-u-smaller
loop-u-smaller c =
    omega (arith, c.strike-u.ensures.lower_bound.0, c.unit_from-v.ensures.1)

pub loop-u-preserved : goal.loop-u-preserved
loop-u-preserved c =
    let at = c.loop-u in
    let s = c.strike-u.ensures in
    (s.lower_bound.1, strikes-again _ _ _ _ _ _ _ _ _ _ _ _ at.invariant.1 s.masks_after)

pub returns-else-gap-slots : goal.returns-else-gap-slots
returns-else-gap-slots c =
    let R = c.requires.mask_room in
    let G = c.next_gap-gap.ensures in
    c.loop-u.invariant.1 ∙ skip-rest _ _ _ _ _ R.right _ _ _ _ G.before c.loop-u.invariant.0 c.if-gap-slots.false

pub returns : goal.returns
returns c =
    let at = c.loop-u in
    at.invariant.1 ∙ strikes-next _ _ _ _ _ _ _ _ (omega arith)
