-- `rota::play::run` meets its contract. Assumes nothing.
use native.Mathlib.Omega.{arith}
use Rattle.rota.specs.Plays.{draws_of}
use Rattle.rota.proofs.Stepping.{ran-start, ran-even, columns-answers, columns-more, columns-end}
use Rattle.rota.proofs.play.run.Goals as goal

pub loop-i-init : goal.loop-i-init
unfolding draws_of
loop-i-init c =
    let p = c.requires in
    let words = c.slice_known-2-1 in
    ran-start _ _ _ _ _ p.plan_sound.slots-few (λ j. omega (arith, words.given j)) p.in_step

pub step_at-requires : goal.step_at-requires
step_at-requires c =
    let p = c.requires in
    let R = c.loop-i.invariant in
    let room = p.draw_room.answers in
    let long = columns-answers _ _ _ _ _ _ _ _ _ _ _ _ R (omega (arith, room)) in
    record {
      sound = p.plan_sound;
      in_step = R.in_step;
      board = p.board_sound;
      even = ran-even _ _ _ _ _ _ _ _ _ R p.board_sound p.even;
      room = p.units_in_bounds;
      answers = omega (arith, room, long);
    }

pub loop-i-preserved : goal.loop-i-preserved
loop-i-preserved c =
    let p = c.requires in
    let words = c.slice_known-2-1 in
    columns-more _ _ _ _ _ _ _ _ _ _ _ _ c.loop-i.invariant _ _ _ p.plan_sound.slots-few p.in_step.sets-room
    (λ j. omega (arith, words.given j)) (omega (arith, p.draw_room.answers)) c.step_at.ensures

pub returns : goal.returns
returns c = columns-end _ _ _ _ _ _ _ _ _ _ _ _ c.loop-i.invariant _ (omega arith)
