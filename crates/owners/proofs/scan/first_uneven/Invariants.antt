-- `owners::scan::first_uneven` meets its contract. Assumes nothing.
use Rattle.std.proofs.Common.{◌≡◌, true}
use Rattle.paper.specs.Count.{all}
use Rattle.owners.specs.Recount.{even_at}
use Rattle.owners.proofs.scan.first_uneven.Given as goal

abbrev pub invariant-loop-u : goal.invariant-loop-u
invariant-loop-u l = all l.u (even_at l.slots l.units l.begins l.owners) ≡ true
