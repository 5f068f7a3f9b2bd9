-- `retire::moving::move_plan` meets its contract. Assumes nothing.
use mathlib.Core.Path.{refl, sym}
use native.Mathlib.Omega.{arith}
use Rattle.retire.proofs.Asks.{gone-few}
use Rattle.retire.proofs.Moved.{starts-short, right-then, rooms, unit-room, unit-long, new-low, plan-moved}
use Rattle.retire.proofs.News.{fresh_some, fresh_none}
use Rattle.retire.proofs.moving.move_plan.Goals as goal

pub overflow_sub-kept : goal.overflow_sub-kept
overflow_sub-kept c =
    omega (
      arith,
      c.start_from-gone.ensures,
      gone-few c.args.slots c.args.units c.args.begins.now c.args.went c.requires.plan_right.units-ok,
    )

pub overflow_sub-left : goal.overflow_sub-left
overflow_sub-left c = let pre = c.requires in omega (arith, pre.went_value, pre.plan_right.rest)

pub fresh_words-words-requires : goal.fresh_words-words-requires
fresh_words-words-requires c =
    let W = fresh_some _ _ _ _ c.fresh_slots.ensures c.in-Some.is in
    right-then _ _ c.requires.plan_right _ _ _
    W.0 W.1

pub fresh_units-some-requires : goal.fresh_units-some-requires
fresh_units-some-requires c =
    let W = fresh_some _ _ _ _ c.fresh_slots.ensures c.in-Some.is in
    let pre = c.requires in
    let r = right-then _ _ pre.plan_right _ _ _ W.0 W.1 in
    (r.base-few, r.base_ok, pre.plan_right.settings-ok)

pub overflow_add-slots : goal.overflow_add-slots
overflow_add-slots c =
    let pre = c.requires in
    let W = fresh_some _ _ _ _ c.fresh_slots.ensures c.in-Some.is in
    let R = rooms _ _ pre.plan_right _ _ _ W.0 W.1 _ _ pre.went_value c.start_from-gone.ensures in
    omega (arith, R.total)

pub roll_frozen-requires : goal.roll_frozen-requires
roll_frozen-requires c =
    let pre = c.requires in
    let W = fresh_some _ _ _ _ c.fresh_slots.ensures c.in-Some.is in
    let R = rooms _ _ pre.plan_right _ _ _ W.0 W.1 _ _ pre.went_value c.start_from-gone.ensures in
    (pre.plan_right.frozen-room, R.total, R.moved)

pub roll_rows-requires : goal.roll_rows-requires
roll_rows-requires c =
    let pre = c.requires in
    let W = fresh_some _ _ _ _ c.fresh_slots.ensures c.in-Some.is in
    let R = rooms _ _ pre.plan_right _ _ _ W.0 W.1 _ _ pre.went_value c.start_from-gone.ensures in
    record { people_value = (pre.plan_right.people-ok, pre.plan_right.avail-room); count_bound = (R.total, R.moved) }

pub overflow_add-units : goal.overflow_add-units
overflow_add-units c =
    let pre = c.requires in
    let W = fresh_some _ _ _ _ c.fresh_slots.ensures c.in-Some.is in
    let R = rooms _ _ pre.plan_right _ _ _ W.0 W.1 _ _ pre.went_value c.start_from-gone.ensures in
    let U = c.fresh_units-some.ensures in
    let few = unit-room _ _ pre.plan_right _ _ _ W.0 W.1 _ _ pre.went_value c.start_from-gone.ensures _ _ U in
    omega (arith, few)

pub roll_begins-requires : goal.roll_begins-requires
roll_begins-requires c =
    let pre = c.requires in
    let W = fresh_some _ _ _ _ c.fresh_slots.ensures c.in-Some.is in
    let R = rooms _ _ pre.plan_right _ _ _ W.0 W.1 _ _ pre.went_value c.start_from-gone.ensures in
    let U = c.fresh_units-some.ensures in
    let few = unit-room _ _ pre.plan_right _ _ _ W.0 W.1 _ _ pre.went_value c.start_from-gone.ensures _ _ U in
    let long = unit-long _ _ pre.plan_right _ _ _ W.0 W.1 _ _ _ pre.went_value c.start_from-gone.ensures refl _ _ U in record {
      kept_in_bounds = (omega (arith, R.went-few, R.units-few, pre.plan_right.begins-room), omega (arith, few, pre.plan_right.begins-room), omega (arith, few, long));
      more_bound = (
        omega (arith, R.total),
        λ u h. new-low _ _ pre.plan_right _ _ _ W.0 W.1 _ _ pre.went_value c.start_from-gone.ensures _ _ U u (omega (arith, h)),
      );
    }

pub slice_bounds-roll_minutes-end : goal.slice_bounds-roll_minutes-end
slice_bounds-roll_minutes-end c =
    let pre = c.requires in
    let W = fresh_some _ _ _ _ c.fresh_slots.ensures c.in-Some.is in
    let R = rooms _ _ pre.plan_right _ _ _ W.0 W.1 _ _ pre.went_value c.start_from-gone.ensures in
    sym R.starts-long

pub slice_bounds-roll_minutes-end-2 : goal.slice_bounds-roll_minutes-end-2
slice_bounds-roll_minutes-end-2 c =
    let pre = c.requires in
    let W = fresh_some _ _ _ _ c.fresh_slots.ensures c.in-Some.is in
    let R = rooms _ _ pre.plan_right _ _ _ W.0 W.1 _ _ pre.went_value c.start_from-gone.ensures in
    sym R.ends-long

pub roll_minutes-requires : goal.roll_minutes-requires
roll_minutes-requires c =
    let pre = c.requires in
    let W = fresh_some _ _ _ _ c.fresh_slots.ensures c.in-Some.is in
    let R = rooms _ _ pre.plan_right _ _ _ W.0 W.1 _ _ pre.went_value c.start_from-gone.ensures in
    (omega (arith, R.moved, pre.plan_right.starts-room), omega (arith, R.total, pre.plan_right.starts-room), omega (arith, R.new, R.starts-long))

pub roll_minutes-requires-2 : goal.roll_minutes-requires-2
roll_minutes-requires-2 c =
    let pre = c.requires in
    let W = fresh_some _ _ _ _ c.fresh_slots.ensures c.in-Some.is in
    let R = rooms _ _ pre.plan_right _ _ _ W.0 W.1 _ _ pre.went_value c.start_from-gone.ensures in
    (omega (arith, R.moved, pre.plan_right.ends-room), omega (arith, R.total, pre.plan_right.ends-room), omega (arith, R.new, R.ends-long))

pub returns : goal.returns
returns c =
    let pre = c.requires in
    let W = fresh_some _ _ _ _ c.fresh_slots.ensures c.in-Some.is in
    plan-moved _ _ pre.plan_right _ _ _ W.0 W.1 _ _ pre.went_value c.start_from-gone.ensures _ _ c.fresh_units-some.ensures _ _ _ _ _ _
    c.fresh_words-words.ensures c.roll_minutes.ensures c.roll_minutes-2.ensures c.roll_rows.ensures
    c.roll_begins.ensures c.roll_frozen.ensures

pub returns-in_default : goal.returns-in_default
returns-in_default c =
    let full = fresh_none _ _ _ c.fresh_slots.ensures c.in_default.is in
    absurd (omega (arith, full, starts-short _ _ c.requires.plan_right))
