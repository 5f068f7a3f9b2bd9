-- `units::masks::write_masks` meets its contract. Assumes nothing.
use mathlib.Core.Path.{◌∙◌, refl}
use native.Mathlib.Omega.{arith}
use Rattle.paper.proofs.Logic.{people-says}
use Rattle.units.proofs.Striking.{strikes-begin, strikes-end, strikes-held, strikes-again, room-kept}
use Rattle.units.proofs.masks.write_masks.Goals as goal

pub fill_masks-requires : goal.fill_masks-requires
fill_masks-requires c =
    let R = c.requires in
    let n = people-says _ R.counted in
    (n.0, n.1, R.room)

pub loop-p-init : goal.loop-p-init
loop-p-init c =
    let full = c.fill_masks.ensures ∙ strikes-begin _ _ _ _ _ _ in
    (omega arith, strikes-held _ _ _ _ _ _ _ _ _ _ full refl)

pub strike_person-requires : goal.strike_person-requires
strike_person-requires c =
    let e = c.loop-p.invariant.1 in
    let full = c.fill_masks.ensures ∙ strikes-begin _ _ _ _ _ _ in
    record {
      mask_room = room-kept _ _ _ _ _ _ _ _ _ e (room-kept _ _ _ _ _ _ _ _ _ full c.requires);
      person_lt_people = c.loop-p-test.true;
      masks_value = strikes-held _ _ _ _ _ _ _ _ _ _ e refl;
    }

pub loop-p-preserved : goal.loop-p-preserved
loop-p-preserved c =
    let e = c.loop-p.invariant.1 in
    (omega arith, strikes-again _ _ _ _ _ _ _ _ _ _ _ _ e c.strike_person.ensures)

pub returns : goal.returns
returns c =
    let full = c.fill_masks.ensures ∙ strikes-begin _ _ _ _ _ _ in
    strikes-again _ _ _ _ _ _ _ _ _ _ _ _ full c.loop-p.invariant.1 ∙ strikes-end _ _ _ _ _ _ _ (omega arith)
