-- `rota::replay::answers_ok` meets its contract. Assumes nothing.
use mathlib.Core.Path.{sym}
use native.Mathlib.Omega.{arith}
use borrow.Author.Tests.{le-leb, lt-leb}
use Rattle.paper.proofs.Count.{all_none, all_more, all-fails}
use Rattle.rota.specs.Replays.{answer_ok}
use Rattle.rota.proofs.Replays.{answers-past}
use Rattle.rota.proofs.replay.answers_ok.Goals as goal

pub loop-i-init : goal.loop-i-init
loop-i-init c = all_none _

pub loop-i-preserved : goal.loop-i-preserved
unfolding answer_ok
loop-i-preserved c = all_more _ _ c.loop-i.invariant (le-leb _ 2 c.if-recorded-i-gt2.false)

pub returns-then-recorded-i-gt2 : goal.returns-then-recorded-i-gt2
unfolding answer_ok
returns-then-recorded-i-gt2 c =
    sym (all-fails _ _ _ (omega (arith, c.loop-i-test.true, c.min-n.ensures)) (lt-leb _ 2 c.if-recorded-i-gt2.true))

pub returns : goal.returns
returns c = answers-past _ _ _ _ c.min-n.ensures c.loop-i-test.false c.loop-i.invariant
