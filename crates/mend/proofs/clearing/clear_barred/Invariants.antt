-- `mend::clearing::clear_barred` meets its contract. Assumes nothing.
use mathlib.Core.Path.{◌≡◌}
use Rattle.paper.specs.Count.{over}
use Rattle.mend.specs.Mended.{left_to}
use Rattle.mend.proofs.clearing.clear_barred.Given as goal

abbrev pub invariant-loop-k : goal.invariant-loop-k
invariant-loop-k l =
    l.owners ≡ over (left_to l.people l.avail l.initial.owners) l.k l.initial.owners
