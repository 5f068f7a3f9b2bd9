-- `owners::derived::clear_sets` meets its contract. Assumes nothing.
use Rattle.std.proofs.Common.{◌≡◌}
use Rattle.owners.specs.Derived.{sets_from, nobodies}
use Rattle.owners.proofs.derived.clear_sets.Given as goal

abbrev pub invariant-loop-p : goal.invariant-loop-p
invariant-loop-p l =
    l.sets ≡ sets_from l.p l.slots (nobodies l.slots) l.initial.sets
