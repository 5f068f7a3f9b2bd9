-- `rota::play::step_at` meets its contract. Assumes nothing.
use Rattle.rota.proofs.Stepping.{at-answer}
use Rattle.rota.proofs.play.step_at.Goals as goal

pub step-requires : goal.step-requires
step-requires c =
    let p = c.requires in
    record { plan_sound = p.sound; in_step = p.in_step; board_sound = p.board; even = p.even; units_in_bounds = p.room }

pub returns : goal.returns
returns c = at-answer _ _ _ _ _ _ _ _ _ _ c.step.ensures
