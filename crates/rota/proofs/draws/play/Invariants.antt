-- `rota::draws::play` meets its contract: begun once, and i draws played so far. Assumes nothing.
use Rattle.std.proofs.Common.{leb, length}
use Rattle.owners.specs.Derived.{plan, derived}
use Rattle.rota.specs.Begins.{Begins}
use Rattle.rota.proofs.Listed.{Playing}
use Rattle.rota.proofs.draws.play.Given as goal

abbrev pub invariant-loop-i : goal.invariant-loop-i
invariant-loop-i l =
    (w : Begins (plan l.people l.slots l.starts l.ends) l.avail l.units l.begins l.frozen l.count (leb l.count (length l.draws))
    l.initial.owners (derived l.initial.sets l.initial.minutes l.initial.totals) l.initial.answers l.b)
    × Playing (plan l.people l.slots l.starts l.ends) l.avail l.units l.begins l.frozen l.count l.initial.owners
    (derived l.initial.sets l.initial.minutes l.initial.totals) l.initial.answers l.draws l.b w l.i l.owners
    (derived l.sets l.minutes l.totals) l.answers
