-- `wayback::writing::write_draws` meets its contract. Assumes nothing.
use Rattle.wayback.specs.Inside.{Wrote}
use Rattle.wayback.proofs.writing.write_draws.Given as goal

abbrev pub invariant-loop-u : goal.invariant-loop-u
invariant-loop-u l =
    Wrote l.begins l.fits l.remembered l.owners l.u l.n l.initial.draws l.initial.firsts l.initial.seconds l.draws l.firsts l.seconds
