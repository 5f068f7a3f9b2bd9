-- `rota::replay::run_on` meets its contract. Assumes nothing.
use native.Mathlib.Omega.{arith}
use Rattle.rota.specs.Plays.{draws_of}
use Rattle.rota.proofs.Stepping.{ran-start, ran-even}
use Rattle.rota.proofs.Replays.{agreed-next, ran-differs, ran-agrees}
use Rattle.rota.proofs.replay.run_on.Goals as goal

pub loop-i-init : goal.loop-i-init
unfolding draws_of
loop-i-init c =
    let p = c.requires in
    let words = c.slice_known-2-1 in
    ran-start _ _ _ _ _ p.plan_sound.slots-few (λ j. omega (arith, words.given j)) p.in_step

pub step-answer-requires : goal.step-answer-requires
step-answer-requires c =
    let p = c.requires in
    let R = c.loop-i.invariant in
    record {
      plan_sound = p.plan_sound;
      in_step = R.in_step;
      board_sound = p.board_sound;
      even = ran-even _ _ _ _ _ _ _ _ _ R p.board_sound p.even;
      units_in_bounds = p.units_in_bounds;
    }

pub loop-i-preserved : goal.loop-i-preserved
loop-i-preserved c =
    let p = c.requires in
    let words = c.slice_known-2-1 in
    let h = c.loop-i-test.true in
    agreed-next _ _ _ _ _ _ _ _ _ _ _ c.loop-i.invariant p.plan_sound.slots-few p.in_step.sets-room (λ j. omega (arith, words.given j))
    (omega (arith, p.draw_room.answers, h)) _ _ _ c.step-answer.ensures c.if-answer-due.false

pub returns-then-answer-due : goal.returns-then-answer-due
returns-then-answer-due c =
    let p = c.requires in
    let words = c.slice_known-2-1 in
    let h = c.loop-i-test.true in
    ran-differs _ _ _ _ _ _ _ _ _ _ _ c.loop-i.invariant p.plan_sound.slots-few p.in_step.sets-room (λ j. omega (arith, words.given j))
    (omega (arith, p.draw_room.answers, h)) _ _ _ c.step-answer.ensures _ h c.if-answer-due.true

pub returns : goal.returns
returns c = ran-agrees _ _ _ _ _ _ _ _ _ _ _ c.loop-i.invariant _ (omega arith) c.loop-i-test.false
