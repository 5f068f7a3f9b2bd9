-- `rota::replay::run_on` meets its contract. Assumes nothing.
use Rattle.owners.specs.Derived.{plan, derived}
use Rattle.rota.specs.Ready.{ready}
use Rattle.rota.specs.Plays.{draws_of}
use Rattle.rota.specs.Stepped.{Ran}
use Rattle.rota.proofs.replay.run_on.Given as goal

-- all agree so far: their answers, written onto the recorded ones, change nothing
abbrev pub invariant-loop-i : goal.invariant-loop-i
invariant-loop-i l =
    Ran (plan l.people l.slots l.starts l.ends) (ready l.people l.slots l.units l.begins l.fits l.flags) l.initial.owners
    (derived l.initial.sets l.initial.minutes l.initial.totals) l.recorded (draws_of l.draws l.firsts l.seconds l.i) l.owners
    (derived l.sets l.minutes l.totals) l.recorded
