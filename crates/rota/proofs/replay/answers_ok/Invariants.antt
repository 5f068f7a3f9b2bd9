-- `rota::replay::answers_ok` meets its contract. Assumes nothing.
use mathlib.Core.Path.{◌≡◌}
use mathlib.Core.Bool.{true}
use Rattle.paper.specs.Count.{all}
use Rattle.rota.specs.Replays.{answer_ok}
use Rattle.rota.proofs.replay.answers_ok.Given as goal

abbrev pub invariant-loop-i : goal.invariant-loop-i
invariant-loop-i l = all l.i (answer_ok l.recorded) ≡ true
