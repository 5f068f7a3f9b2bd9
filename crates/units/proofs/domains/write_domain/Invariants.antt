-- `units::domains::write_domain` meets its contract. Assumes nothing.
use Rattle.units.specs.Domains.{able}
use Rattle.units.specs.Inside.{DomainRoom}
use Rattle.units.proofs.Collect.{Collecting}
use Rattle.units.proofs.domains.write_domain.Given as goal

abbrev pub invariant-loop-p : goal.invariant-loop-p
invariant-loop-p l =
    Collecting (able l.avail l.a l.e) l.people l.initial.list l.list l.n l.p × DomainRoom l.avail l.people l.e l.initial.list
