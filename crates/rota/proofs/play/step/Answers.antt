-- `rota::play::step` meets its contract. Assumes nothing.
use native.Mathlib.Omega.{arith}
use Rattle.owners.specs.Derived.{plan, derived}
use Rattle.rota.proofs.Judged.{board-owned}
use Rattle.rota.proofs.Stepping.{stretch-one, stretch-known, second-after, drawn-lawful, stepped-stay}
use Rattle.rota.proofs.Stepping.{stepped-give, stepped-trade}
use Rattle.rota.proofs.play.step.Goals as goal

pub decide-requires : goal.decide-requires
decide-requires c =
    let at_pre = c.requires in
    let room = at_pre.units_in_bounds in
    record {
      people_bound = at_pre.plan_sound.people-few;
      owner_room = board-owned _ _ _ _ _ _ _ at_pre.board_sound at_pre.even room.0;
      units_in_bounds = (room.1, room.2);
    }

pub hand_over-requires : goal.hand_over-requires
hand_over-requires c =
    let at-args = c.args in
    let at-decide = c.decide in
    let at_pre = c.requires in
    let L = drawn-lawful (plan at-args.people at-args.slots at-args.starts.now at-args.ends.now) _ _ (derived
    at-args.sets.now at-args.minutes.now at-args.totals.now) _ _ at-decide.ensures at_pre.even _ c.in-Give.is in
    record {
      plan_sound = at_pre.plan_sound;
      in_step = at_pre.in_step;
      one_owner = stretch-one _ at_pre.board_sound _ at_pre.even _ _ _ _ L;
      to_value = stretch-known _ at_pre.board_sound _ at_pre.even _ _ _ _ L;
    }

pub hand_over-requires-in-Trade : goal.hand_over-requires-in-Trade
hand_over-requires-in-Trade c =
    let at-args = c.args in
    let at-decide = c.decide in
    let at_pre = c.requires in
    let L = drawn-lawful (plan at-args.people at-args.slots at-args.starts.now at-args.ends.now) _ _ (derived
    at-args.sets.now at-args.minutes.now at-args.totals.now) _ _ at-decide.ensures at_pre.even _ c.in-Trade.is in record {
      plan_sound = at_pre.plan_sound;
      in_step = at_pre.in_step;
      one_owner = stretch-one _ at_pre.board_sound _ at_pre.even _ _ _ _ L.left;
      to_value = stretch-known _
          at_pre.board_sound _ at_pre.even _ _ _ _ L.left;
    }

pub hand_over-requires-in-Trade-2 : goal.hand_over-requires-in-Trade-2
hand_over-requires-in-Trade-2 c =
    let at-args = c.args in
    let at-decide = c.decide in
    let at_pre = c.requires in
    let at-hand-over2 = c.hand_over-in-Trade in
    let L = drawn-lawful (plan at-args.people at-args.slots at-args.starts.now at-args.ends.now) _ _ (derived
    at-args.sets.now at-args.minutes.now at-args.totals.now) _ _ at-decide.ensures at_pre.even _ c.in-Trade.is in record {
      plan_sound = at_pre.plan_sound;
      in_step = at-hand-over2.ensures.step;
      one_owner = second-after _ at_pre.board_sound _ at_pre.even _ _ _ _ _ _ _ L _
          at-hand-over2.ensures.owners;
      to_value = stretch-known _ at_pre.board_sound _ at_pre.even _ _ _ _ L.right;
    }

pub returns-in-Stay : goal.returns-in-Stay
returns-in-Stay c =
    let at-decide = c.decide in
    let at_pre = c.requires
    in
    let at-slice-known2 = c.slice_known-2-1 in
    stepped-stay _ _ _ _ _ _ at-decide.ensures _ c.in-Stay.is at_pre.plan_sound.slots-few (λ j. omega (
      arith,
      at-slice-known2.given j,
    )) at_pre.in_step

pub returns-in-Give : goal.returns-in-Give
returns-in-Give c =
    let at-decide = c.decide in
    let at-hand-over = c.hand_over in
    stepped-give _ _ _ _ _ _ at-decide.ensures _ _ _ _ _ c.in-Give.is at-hand-over.ensures

pub returns-in-Trade : goal.returns-in-Trade
returns-in-Trade c =
    let at-decide = c.decide in
    let at_pre = c.requires in
    let at-slice-known2 = c.slice_known-2-1 in
    let at-hand-over2 = c.hand_over-in-Trade in
    let at-hand-over3 = c.hand_over-in-Trade-2 in
    stepped-trade _ _ _ _ _ _ at-decide.ensures _ _ _ _ _ _ _ _ _ _ at_pre.plan_sound.slots-few at_pre.in_step.sets-room (λ
    j. omega (arith, at-slice-known2.given j)) c.in-Trade.is at-hand-over2.ensures at-hand-over3.ensures
