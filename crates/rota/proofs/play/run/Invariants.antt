-- `rota::play::run` meets its contract. Assumes nothing.
use Rattle.rota.specs.Ready.{ready}
use Rattle.owners.specs.Derived.{plan, derived}
use Rattle.rota.specs.Plays.{draws_of}
use Rattle.rota.specs.Stepped.{Ran}
use Rattle.rota.proofs.play.run.Given as goal

abbrev pub invariant-loop-i : goal.invariant-loop-i
invariant-loop-i l =
    Ran (plan l.people l.slots l.starts l.ends) (ready l.people l.slots l.units l.begins l.fits l.flags) l.initial.owners
    (derived l.initial.sets l.initial.minutes l.initial.totals) l.initial.answers (draws_of l.draws l.firsts l.seconds l.i) l.owners
    (derived l.sets l.minutes l.totals) l.answers
