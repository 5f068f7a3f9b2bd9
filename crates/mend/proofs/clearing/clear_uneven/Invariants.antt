-- `mend::clearing::clear_uneven` meets its contract. Assumes nothing.
use mathlib.Core.Path.{◌≡◌}
use Rattle.mend.specs.Mended.{uneven_cleared}
use Rattle.mend.proofs.clearing.clear_uneven.Given as goal

abbrev pub invariant-loop-u : goal.invariant-loop-u
invariant-loop-u l =
    l.owners ≡ uneven_cleared l.slots l.units l.begins l.initial.owners l.u
