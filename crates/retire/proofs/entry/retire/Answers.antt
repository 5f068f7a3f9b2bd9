-- `retire::entry::retire` meets its contract. Assumes nothing.
use native.Mathlib.Omega.{arith}
use Rattle.paper.proofs.Logic.{people-says}
use Rattle.retire.proofs.Retires.{end_refused, end-nothing, end-everything, end-retired, asked_of, plan-of, gone-is, gone-under, gone-few}
use Rattle.retire.proofs.Retires.{priors-low, retired-low, owners-room, owners-pass, all_moved, plan-part, part_moved, priors-long}
use Rattle.retire.proofs.entry.retire.Goals as goal

pub returns-then-went-eq0 : goal.returns-then-went-eq0
returns-then-went-eq0 c = end-nothing _ _ _ c.retire_refusal-f.ensures c.if-f-ne0.false _ c.gone_units-went.ensures c.if-went-eq0.true

pub returns-then-went-units : goal.returns-then-went-units
returns-then-went-units c =
    end-everything _ _ _ c.retire_refusal-f.ensures c.if-f-ne0.false _ c.gone_units-went.ensures c.if-went-eq0.false
    c.if-went-units.true

pub add_figures-requires : goal.add_figures-requires
add_figures-requires c =
    let f = c.retire_refusal-f.ensures in
    let z = c.if-f-ne0.false in
    let u = c.gone_units-went.ensures in
    let some = c.if-went-eq0.false in
    let rest = c.if-went-units.false in
    let A = asked_of _ _ _ f z _ u some rest in record {
      people_bound = (
        (people-says _ A.people-ok).1,
        gone-few _ _ _ f z _ u some rest _ c.start_from-gone.ensures,
        A.priors-room,
        A.retired-room,
      );
      by_index = (
        priors-low _ _ _ f z _ u some rest _ c.start_from-gone.ensures,
        retired-low _ _ _ f z _ u some rest _ c.start_from-gone.ensures,
      );
    }

pub move_plan-then-requires : goal.move_plan-then-requires
move_plan-then-requires c =
    let f = c.retire_refusal-f.ensures in
    let z = c.if-f-ne0.false in
    let u = c.gone_units-went.ensures in
    let some = c.if-went-eq0.false in
    let rest = c.if-went-units.false in
    record { plan_right = plan-part _ _ _ _ _ _ _ _ _ _ _ _ _ (plan-of _ _ _ f z _ u some rest); went_value = u }

pub overflow_sub-slots : goal.overflow_sub-slots
overflow_sub-slots c =
    let f = c.retire_refusal-f.ensures in
    let z = c.if-f-ne0.false in
    let u = c.gone_units-went.ensures in
    let some = c.if-went-eq0.false in
    let rest = c.if-went-units.false in
    let low = gone-under _ _ _ f z _ u some rest _ c.start_from-gone.ensures in
    omega (arith, low)

pub move_owners-requires : goal.move_owners-requires
move_owners-requires c =
    let f = c.retire_refusal-f.ensures in
    let z = c.if-f-ne0.false in
    let u = c.gone_units-went.ensures in
    let some = c.if-went-eq0.false in
    let rest = c.if-went-units.false in
    let g = c.start_from-gone.ensures in
    let M = part_moved _ _ _ _ _ _ _ _ _ _ _ _ _ _ _ _ _ _ _ _ c.move_plan-then.ensures in
    record { kept_in_bounds = owners-room _ _ _ f z _ u some rest _ g _ _ _ _ _ _ _ M; totals_value = owners-pass _ _ _ f z _ u some rest _ g _ _ _ _ _ _ _ M }

pub shape_of-priors : goal.shape_of-priors
shape_of-priors c = priors-long _ _ _ _ _ c.add_figures.ensures.0

pub returns : goal.returns
returns c =
    let f = c.retire_refusal-f.ensures in
    let z = c.if-f-ne0.false in
    let u = c.gone_units-went.ensures in
    let some = c.if-went-eq0.false in
    let rest = c.if-went-units.false in
    let g = c.start_from-gone.ensures in
    let M = part_moved _ _ _ _ _ _ _ _ _ _ _ _ _ _ _ _ _ _ _ _ c.move_plan-then.ensures in
    let D = c.move_owners.ensures in
    let F = c.add_figures.ensures in
    end-retired _ _ _ f z _ u some rest _ _ _ _ (gone-is _ _ _ f z _ u some rest _ g) M.slots-are M.units-are
    (all_moved _ _ _ f z _ u some rest _ g _ _ _ _ _ _ _ M _ _ _ _ D.0 D.1 F.0 F.1)

pub returns-then-f-ne0 : goal.returns-then-f-ne0
returns-then-f-ne0 c = end_refused _ _ _ c.retire_refusal-f.ensures c.if-f-ne0.true
